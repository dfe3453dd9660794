-- What a sound header and a sound record say of their kind, edition and issue number.
use Rattle.octets.specs.Standard.{ℕ, true, ◌≡◌, List, [], ◌∷◌, eqb, get_or, eqb-true}
use Rattle.octets.proofs.Chains.{chain_says}
use Rattle.record.specs.Fields.{edition_of, issue_of}
use Rattle.record.specs.HeaderBlock.{header_of, sound_header}
use Rattle.record.specs.RecordBlock.{record_of, sound_record}
use Rattle.record.specs.declared.header.Header.{Header}
use Rattle.record.proofs.Tests.{record_says, header_says}

module _ (b : List ℕ) (k : ℕ) (h : Header) (file : ℕ) (e : sound_record b k h file ≡ true) where
  pub record_kind : get_or b 0 0 ≡ 2
  unfolding record_of
  record_kind = eqb-true _ _ (chain_says (eqb (record_of b).kind 2) (_ ∷ _ ∷ _ ∷ []) (record_says b k h file e).head 0)

  pub record_edition : edition_of b ≡ h.edition
  unfolding record_of
  record_edition = eqb-true _ _ (chain_says (eqb (record_of b).kind 2) (_ ∷ _ ∷ _ ∷ []) (record_says b k h file e).head 1)

  pub record_issue : issue_of b ≡ h.issue
  unfolding record_of
  record_issue = eqb-true _ _ (chain_says (eqb (record_of b).kind 2) (_ ∷ _ ∷ _ ∷ []) (record_says b k h file e).head 3)

pub header_kind : (b : List ℕ) → sound_header b ≡ true → get_or b 0 0 ≡ 1
unfolding header_of
header_kind b e = eqb-true _ _ (chain_says (eqb (header_of b).kind 1) (_ ∷ _ ∷ []) (header_says b e).head 0)
