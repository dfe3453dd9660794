-- Areas that are large enough for all requests of a file.
use Rattle.octets.specs.Standard.{ℕ, suc, ◌-◌, ◌*◌, ◌≤◌, List, [], ◌∷◌, false, ◌≡◌, refl, ap, arith, length, drop, length-drop}
use Rattle.octets.specs.Standard.{le-ltb, ne_eqb}
use Rattle.calling.specs.Call.{Call, Answered, Refused}
use Rattle.calling.specs.Lent.{Lent, asking, table_only}
use Rattle.calling.specs.Serve.{serve}
use Rattle.demands.proofs.Demands.{demand_2_room}
use Rattle.reporting.specs.Row.{left}
use Rattle.report_numbers.specs.Turns.{InTurn, call_length}
use Rattle.report_numbers.proofs.Calls.{largest_most, largest_least}
use Rattle.row_of_calls.specs.Row.{answer_length, no_room, next, before, row_from}

-- no answer is longer than the room that it needs
answer_small : (y : Lent) → answer_length (serve y).call ≤ 36864
unfolding left
answer_small y =
    let ps : List (List ℕ) = y.request ∷ [] in
    let p : InTurn ps = record { before = []; request = y.request; after = []; is = refl } in
    omega (arith, same (serve y).call, largest_least (table_only y) ps p, largest_most (table_only y) ps)
  where
    same : (c : Call) → answer_length c ≡ call_length c
    same (Answered a) = refl
    same (Refused number besides) = refl

pub all_have_room : (end : ℕ) (x : Lent) (words : List ℕ) (most : ℕ) (ps : List (List ℕ)) → 36864 * length ps ≤ length x.buffer
    → 8 * length ps ≤ length words → length ps ≤ most → (row_from end x words most ps).served ≡ length ps
unfolding row_from next
all_have_room end x words most [] a w m = refl
all_have_room end x words most (p ∷ ps) a w m =
    rw room
    (ap suc (all_have_room end (next x p) (drop 8 words) (most - 1) ps left_over_lem words_over_lem (omega (arith, m))))
  where
    room : no_room (length x.buffer) (length words) most ≡ false
    room =
        rw (le-ltb (length x.buffer) 36864 (omega (arith, a)), le-ltb (length words) 8 (omega (arith, w))) (ne_eqb most 0 (λ e. omega (arith, e, m)))

    left_over_lem : 36864 * length ps ≤ length (next x p).buffer
    left_over_lem =
        let n : ℕ = answer_length (serve (asking x p)).call in
        omega (arith, a, length-drop n (serve (asking x p)).buffer, demand_2_room (asking x p), answer_small (asking x p))

    words_over_lem : 8 * length ps ≤ length (drop 8 words)
    words_over_lem = omega (arith, w, length-drop 8 words)
