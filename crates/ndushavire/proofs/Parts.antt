-- What is put into a word is read out of it: the number, the place, the value.
use Rattle.octets.specs.Standard.{ℕ, ◌+◌, ◌*◌, ◌/◌, ◌<◌, ◌≡◌, arith}
use Rattle.ndushavire.specs.Word.{word}
use Rattle.ndushavire.specs.Reads.{number_in, place_in, value_in}

pub record Parts (number place value : ℕ) : Type 0 where
  pub number_is : number_in (word number place value) ≡ number
  pub place_is : place_in (word number place value) ≡ place
  pub value_is : value_in (word number place value) ≡ value

pub parts : (number place value : ℕ) → place < 65536 → value < 4294967296 → Parts number place value
parts number place value l h =
    let q : word number place value / 4294967296 ≡ number * 65536 + place = omega arith in
    record { number_is = omega arith; place_is = rw q (omega arith); value_is = omega arith }
