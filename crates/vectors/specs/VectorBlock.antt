-- "0 kind 3; 1 used (0 or 1); 2 XRES length (4 to 16); 3 length of private identity (1 to 128); 4-131 that name; 132-163 RAND and AUTN; 164-179 XRES;
-- 180-195, 196-211 confidentiality and integrity key; the rest zero"
use Rattle.std.specs.Prelude.{ℕ, ◌+◌, Bool, ◌&&◌, List, get_or, take, drop, eqb, leb}
use Rattle.octets.specs.Run.{zero_between}
use Rattle.octets.specs.Sum.{sum_words}
use Rattle.vectors.specs.declared.vector.Vector.{Vector}

unfoldable pub vector_of : List ℕ → Vector
vector_of b = record { kind = get_or b 0 0; used = get_or b 1 0; xres = get_or b 2 0; private = get_or b 3 0 }

abbrev pub sound_limits : Vector → Bool
sound_limits v =
    eqb v.kind 3 && leb v.used 1 && leb 4 v.xres && leb v.xres 16 && leb 1 v.private && leb v.private 128

-- "the rest zero", and so are the unused places of the two fields whose lengths are given
abbrev pub sound_rest : List ℕ → Vector → Bool
sound_rest b v = zero_between b (4 + v.private) 132 && zero_between b (164 + v.xres) 180 && zero_between b 212 508

-- a sound block of the vector file, "with the table's check"
unfoldable pub sound_vector : List ℕ → Bool
sound_vector b = eqb (sum_words b 128) 0 && sound_limits (vector_of b) && sound_rest b (vector_of b)

-- the private identity that a vector is for; what is sent of it, "as stored"
unfoldable pub card_of : List ℕ → List ℕ
card_of b = take (get_or b 3 0) (drop 4 b)

unfoldable pub rand_autn_of : List ℕ → List ℕ
rand_autn_of b = take 32 (drop 132 b)

unfoldable pub xres_of : List ℕ → List ℕ
xres_of b = take (get_or b 2 0) (drop 164 b)

unfoldable pub confidentiality_of : List ℕ → List ℕ
confidentiality_of b = take 16 (drop 180 b)

unfoldable pub integrity_of : List ℕ → List ℕ
integrity_of b = take 16 (drop 196 b)
