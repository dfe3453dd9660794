-- How long the pieces of an answer are at the most.
use Rattle.octets.specs.Standard.{ℕ, ◌+◌, ◌≤◌, List, arith, ltb, length, length-append}
use Rattle.record.specs.Fields.{private_of, public_of, server_of, mandatory_of, optional_of}
use Rattle.blocks.specs.Blocks.{of_block}
use Rattle.table.specs.SoundTable.{SoundTable}
use Rattle.pen.specs.Bytes.{copied_size, avp_bytes, vendor_bytes}
use Rattle.pen.proofs.Sizes.{avp_length, vendor_length, there_length}
use Rattle.pen.specs.Groups.{own_features}
use Rattle.pen.proofs.Groups.{capabilities_length, features_length}
use Rattle.reading.specs.declared.Terms.{Terms}
use Rattle.requests.specs.Features.{list_called}
use Rattle.choices.specs.declared.Given.{Given}
use Rattle.parts.specs.Profile.{profile_at}
use Rattle.parts.proofs.Fields.{part_length, user_field, public_field_lem, server_field, mandatory_field, optional_field}
use Rattle.reply.specs.Pieces.{named_bytes, vendor_named, list_bytes, identity_bytes, name_bytes, data_bytes}

pub list_length : (terms : Terms) (req : List ℕ) → length (list_bytes terms req) ≤ 56
unfolding list_bytes
list_length terms req = omega (arith, there_length (list_called terms req) (own_features terms.features), features_length terms.features)

named_length : (code : ℕ) (d : List ℕ) → length (named_bytes code d) ≤ 8 + copied_size (length d)
named_length code d = omega (arith, there_length (ltb 0 (length d)) (avp_bytes code d), avp_length code d)

vendor_named_length : (code : ℕ) (d : List ℕ) → length (vendor_named code d) ≤ 12 + copied_size (length d)
vendor_named_length code d = omega (arith, there_length (ltb 0 (length d)) (vendor_bytes code d), vendor_length code d)

-- What the table's limits bound, whatever blocks are named.
module _ (t : List ℕ) (count : ℕ) (s : SoundTable t count) where
  pub names_length : (g : Given) → length (name_bytes t g) ≤ 384
  unfolding name_bytes identity_bytes
  names_length g =
      simp length-append
      (omega (
        arith,
        named_length 1 (of_block private_of t g.user),
        vendor_named_length 601 (of_block public_of t g.public),
        vendor_named_length 602 (of_block server_of t g.server),
        part_length private_of 128 t count (user_field t count s) g.user,
        part_length public_of 128 t count (public_field_lem t count s) g.public,
        part_length server_of 96 t count (server_field t count s) g.server,
      ))

  pub data_length : (file : List ℕ) (g : Given) → length (data_bytes t file g) ≤ 152 + copied_size (length (profile_at t file g.profile))
  unfolding data_bytes
  data_length file g =
      simp length-append
      (omega (
        arith,
        capabilities_length (of_block mandatory_of t g.capable) (of_block optional_of t g.capable),
        vendor_named_length 606 (profile_at t file g.profile),
        part_length mandatory_of 16 t count (mandatory_field t count s) g.capable,
        part_length optional_of 16 t count (optional_field t count s) g.capable,
      ))
