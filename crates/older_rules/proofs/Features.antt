-- 02 [11]: a request without Supported-Features is served as before, whatever the set. What the rules were is in specs/WithoutFeatures.
use Rattle.octets.specs.Standard.{ℕ, ◌+◌, List, [], append-nil, Bool, true, false, ◌&&◌, ◌≡◌, refl, sym, length, eqb}
use Rattle.blocks.specs.Blocks.{block_of}
use Rattle.diameter.specs.Avp.{padded}
use Rattle.diameter.specs.Message.{body_of}
use Rattle.diameter.specs.Walk.{Walk, ended, faulty, avp, some_avp}
use Rattle.pen.specs.Bytes.{if_there}
use Rattle.pen.specs.Groups.{own_features}
use Rattle.reading.specs.Features.{is_features}
use Rattle.reading.specs.Rules.{Seen, rule}
use Rattle.reading.specs.declared.Dialect.{Dialect}
use Rattle.reading.specs.declared.Ruled.{Ruled}
use Rattle.reading.specs.declared.Ruled.TheVariants.{Taken, Skipped, Fault}
use Rattle.reading.specs.declared.Terms.{Terms}
use Rattle.requests.specs.Features.{called_in, list_called}
use Rattle.requests.specs.Judged.{Judged, nothing, on_rule, judge}
use Rattle.requests.proofs.Featured.{none_beyond, none_called}
use Rattle.requests.specs.Request.{dialect_of, header_fault, read_walk, read_in}
use Rattle.choices.specs.declared.Given.{Given}
use Rattle.envelope.specs.Front.{origin_bytes}
use Rattle.reply.specs.Pieces.{list_bytes, top_bytes}
use Rattle.answering.specs.Answer.{body_bytes, answer_bytes}
use Rattle.deciding.specs.Rules.{in_force}
use Rattle.refusals.proofs.Passing.{neither}
use Rattle.calling.specs.Lent.{Lent, dialect_in}
use Rattle.calling.specs.Serve.{serve_table_by, serve_table}
use Rattle.older_rules.specs.WithoutFeatures.{NoFeatures, rule_before, judge_before, read_before, body_before, answer_before, before_features}
use Rattle.older_rules.proofs.Rules.{rules_same, decided_same}

-- the own list
module _ (terms : Terms) (req : List ℕ) (none : NoFeatures (body_of req)) where
  pub none_listed : list_bytes terms req ≡ []
  unfolding list_bytes list_called if_there
  none_listed = go (eqb (header_fault (dialect_of terms req) req) 0)
    where
      go : (x : Bool) → if_there (x && called_in (body_of req)) (own_features terms.features) ≡ []
      go true = rw (none_called req none)
      go false = refl

-- reading: what comes of an AVP is the same if what comes of those behind it is
pub on_same : (r : Ruled) (seen : Seen) (a : List ℕ) (at : ℕ) (next other : Seen → Judged) → ((s : Seen) → next s ≡ other s)
    → on_rule r seen a at next ≡ on_rule r seen a at other
on_same Taken seen a at next other h = h _
on_same Skipped seen a at next other h = h seen
on_same (Fault n) seen a at next other h = refl

module _ (d : Dialect) where
  judge_same : (at : ℕ) (w : Walk) (seen : Seen) → NoFeatures w → judge_before d at w seen ≡ judge d at w seen
  unfolding judge_before judge rule_before some_avp
  judge_same at ended seen n = refl
  judge_same at (faulty t) seen n = refl
  judge_same at (avp a w) seen n =
      let both = neither (is_features a) (some_avp is_features w) n in
      rw both.0 (on_same (rule d seen a) seen a at _ _ (λ s. judge_same (at + padded (length a)) w s both.1))

  read_same : (req : List ℕ) → NoFeatures (body_of req) → read_before d req ≡ read_in d req
  unfolding read_before read_in read_walk
  read_same req n = rw (judge_same 20 (body_of req) nothing n)

-- the answer
module _ (terms : Terms) (req t file v : List ℕ) (none : NoFeatures (body_of req)) (g : Given) where
  body_same : body_before terms req t file v g ≡ body_bytes terms req t file v g
  unfolding body_before body_bytes top_bytes
  body_same = rw (none_listed terms req none, append-nil (origin_bytes (block_of t 0)))

  answer_same : answer_before terms req t file v g ≡ answer_bytes terms req t file v g
  unfolding answer_before answer_bytes
  answer_same = rw body_same

pub without_features : (x : Lent) → NoFeatures (body_of x.request) → serve_table_by before_features x ≡ serve_table x
without_features x none =
    rules_same before_features in_force x refl (answer_same x.terms x.request x.table x.profile x.vectors none)
    (λ count e.
    decided_same before_features in_force x count (read_same (dialect_in x) x.request none) (sym (none_beyond x.request none x.terms)) (λ seen. refl)
    (λ seen d. refl))
