-- What a call says of the record that a User-Data-Request asks about.
use Rattle.std.specs.Prelude.{ℕ, ◌+◌, ◌≤◌, ◌≡◌, Bool, true, cond, ◌&&◌, List, [], ◌∷◌, ◌++◌, length, ltb}
use Rattle.std.proofs.Math.Option.{none, some}
use Rattle.octets.specs.Run.{over}
use Rattle.record.specs.Fields.{state_of, bits_of, server_of, pending}
use Rattle.blocks.specs.Blocks.{block_of}
use Rattle.table.specs.Area.{table_in}
use Rattle.table.specs.Named.{public_at}
use Rattle.diameter.specs.Message.{body_of}
use Rattle.diameter.specs.Walk.{some_avp}
use Rattle.pen.specs.Bytes.{vendor_bytes}
use Rattle.reading.specs.Verdicts.{fault_of}
use Rattle.reading.specs.declared.Outcome.TheVariants.{Base}
use Rattle.requests.specs.Request.{session_of}
use Rattle.envelope.specs.End.{end_bytes}
use Rattle.envelope.specs.Front.{front_bytes, origin_bytes}
use Rattle.envelope.specs.Header.{header_bytes}
use Rattle.calling.specs.Call.{Answered}
use Rattle.markup.specs.Escapes.{escaped, none_bare}
use Rattle.user_data.specs.Elements.{inside, name_told, state_told}
use Rattle.user_data.specs.UserData.{name_start, name_end, user_state}
use Rattle.sh.specs.Answer.{sh_answer}
use Rattle.sh.specs.Referring.{refers, refers_other}
use Rattle.sh.specs.Tell.{Telling}
use Rattle.ndushavire_sh.specs.Lent.{Lent, terms_in}
use Rattle.ndushavire_sh.specs.Serve.{Served}

-- record k of the table that is lent, of so many, has an identity
pub record Holds (x : Lent) (count : ℕ) (name : List ℕ) (k : ℕ) : Type 0 where
  pub from : 1 ≤ k
  pub to : k ≤ count
  pub named : public_at (table_in x.table) k ≡ name

-- the request has a Data-Reference of a number; one that is neither 11 nor 12
abbrev pub refers_to : Lent → ℕ → Bool
refers_to x n = some_avp (refers n) (body_of x.request)

abbrev pub refers_else : Lent → Bool
refers_else x = some_avp refers_other (body_of x.request)

-- one of the records has it, and there is such a Data-Reference or none
pub record Known (x : Lent) (count : ℕ) (name : List ℕ) (yes : Bool) : Type 0 where
  pub block : ℕ
  pub holds : Holds x count name block
  pub other : refers_else x ≡ yes

-- the call that is answered with what is told
abbrev pub saying : Lent → Telling → Served
saying x g =
    let bytes = sh_answer (terms_in x) x.request (table_in x.table) g in
    record { call = Answered (record { length = length bytes; place = g.verdict.place }); buffer = over bytes x.buffer }

-- the answer of B2001 with a text in its 702
abbrev pub text_body : Lent → List ℕ → List ℕ
text_body x text =
    front_bytes (terms_in x) (session_of (body_of x.request)) (Base 2001)
    ++ (origin_bytes (block_of (table_in x.table) 0) ++ (vendor_bytes 702 text ++ end_bytes x.request (fault_of 2001)))

abbrev pub text_bytes : Lent → List ℕ → List ℕ
text_bytes x text = header_bytes x.request (Base 2001) (20 + length (text_body x text)) ++ text_body x text

-- A call is answered so. Between the name's tags stands the name that a record's block stores, escaped, "with markup characters escaped", and nothing bare; and
-- the text read back says that name and the record's state, each if it was asked for.
pub record Says (x : Lent) (b : List ℕ) (s : Served) : Type 0 where
  pub text : List ℕ
  pub answers : s ≡ record { call = Answered (record { length = length (text_bytes x text); place = 0 }); buffer = over (text_bytes x text) x.buffer }
  pub shown : inside name_start name_end text ≡ cond (refers_to x 12 && ltb 0 (length (server_of b))) (some (escaped (server_of b))) none
  pub clean : (n : List ℕ) → inside name_start name_end text ≡ some n → none_bare n ≡ true
  pub name : name_told text ≡ cond (refers_to x 12 && ltb 0 (length (server_of b))) (some (server_of b)) none
  pub state : state_told text ≡ cond (refers_to x 11) (some ((0x30 + user_state (state_of b) (pending (bits_of b))) ∷ [])) none
