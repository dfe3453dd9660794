-- What a call comes to: an answer, with its length and the place of the AVP at fault, 0 where none is; or a refusal's number with what it returns besides.
use Rattle.std.specs.Prelude.{ℕ}

pub record Answer : Type 0 where
  pub length : ℕ
  pub place : ℕ

pub data Call : Type 0 where
  Answered : Answer → Call
  Refused : ℕ → ℕ → Call
