-- The refusals that look at no file, and that of a table that is checked: a call's of either server.
use Rattle.std.specs.Prelude.{ℕ, ◌%◌, List, [], ◌∷◌, Bool, true, false, not, ◌&&◌, ◌||◌, length, get_or, eqb, ltb, Result, Ok, Err}
use Rattle.octets.specs.Number.{be24_at}
use Rattle.reading.specs.Groups.{rfc3588, rfc6733}
use Rattle.reading.specs.declared.Terms.{Terms}
use Rattle.refusals.specs.Trial.{Trial, tried}

-- 12: "a peer edition other than the two .., before 1"
abbrev pub unknown_peer : Terms → Bool
unknown_peer terms = not (eqb terms.peer rfc3588) && not (eqb terms.peer rfc6733)

-- 1: "answer buffer under 36,864 bytes"
abbrev pub small_buffer : List ℕ → Bool
small_buffer o = ltb (length o) 36864

-- 2: "request under 20 or over 16,384 bytes"
abbrev pub wrong_size : List ℕ → Bool
wrong_size req = ltb (length req) 20 || ltb 16384 (length req)

-- 3: "header length differs from the request's length, or is no multiple of 4"
unfoldable pub wrong_length : List ℕ → Bool
wrong_length req = not (eqb (be24_at req 1) (length req)) || not (eqb (length req % 4) 0)

-- 4: "R bit clear"
abbrev pub no_request : List ℕ → Bool
no_request req = ltb (get_or req 4 0) 128

-- 5: "table unsound", with the "first bad block"
abbrev pub is_bad : Result ℕ ℕ → Bool
is_bad (Ok count) = false
is_bad (Err block) = true

abbrev pub check_value : Result ℕ ℕ → ℕ
check_value (Ok count) = count
check_value (Err block) = block

abbrev pub unsound : Result ℕ ℕ → Trial
unsound c = record { holds = is_bad c; number = 5; besides = check_value c }

-- "Five refusals of the call" and the twelfth, in their order, with what each returns besides: those that look at no file
abbrev pub early_trials : Terms → List ℕ → List ℕ → List Trial
early_trials terms req o =
    record { holds = unknown_peer terms; number = 12; besides = 0 }
    ∷ record { holds = small_buffer o; number = 1; besides = 0 }
    ∷ record { holds = wrong_size req; number = 2; besides = 0 }
    ∷ record { holds = wrong_length req; number = 3; besides = 0 }
    ∷ record { holds = no_request req; number = 4; besides = 0 }
    ∷ []

-- the number of the first of five refusals that holds, 0 if none does
unfoldable pub early : Terms → List ℕ → List ℕ → ℕ
early terms req o = tried (λ r. r.number) 0 (early_trials terms req o)
