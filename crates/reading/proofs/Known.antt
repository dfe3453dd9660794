-- The table of kinds read by its columns, and a kind's number by its vendor and code.
use Rattle.octets.specs.Standard.{ℕ, zero, suc, ◌<◌, ◌≤◌, arith, ◌≡◌, sym, ap, ◌∙◌, List, ◌∷◌, and-false, get_or-eq_default, ne_eqb, le-leb, lt-leb}
use Rattle.diameter.specs.Avp.{avp_code, vendor_of}
use Rattle.diameter.specs.Reader.{own_of, Here}
use Rattle.diameter.specs.declared.Avp.{Avp}
use Rattle.diameter.proofs.Reading.{own_flags}
use Rattle.reading.specs.declared.Dialect.{Dialect}
use Rattle.reading.specs.declared.Kind.{Kind}
use Rattle.reading.specs.declared.Content.{Content}
use Rattle.reading.specs.declared.Content.TheVariants.{Free}
use Rattle.reading.specs.declared.Uses.{Uses}
use Rattle.reading.specs.declared.Use.TheVariants.{Unknown}
use Rattle.reading.specs.Kinds.{
  kinds,
  known,
  unknown,
  row_of,
  kind_from,
  kind_by,
  kind_of,
  use_in,
  sh,
  row,
  everywhere,
  session_id,
  application,
  session_state,
  origin_host,
  origin_realm,
  destination_realm,
  user_name,
  public_identity,
  visited_network,
  auth_data_item,
  number_auth_items,
  server_name,
  assignment_type,
  data_available,
  authorization_type,
  destination_host,
  proxy_info,
  route_record,
  supported_features,
  user_identity,
  data_reference,
}

-- the columns of the table
module _ (d : Dialect) (k : Kind) where
  pub in_udr : d.terms.application ≡ sh → k.uses.udr ≡ use_in d k
  unfolding use_in
  in_udr e = rw e

  module _ (o : d.terms.application ≡ sh → ⊥) where
    pub in_uar : d.command ≡ 300 → k.uses.uar ≡ use_in d k
    unfolding use_in
    in_uar e = rw (ne_eqb _ _ o, e)

    pub in_sar : (d.command ≡ 300 → ⊥) → d.command ≡ 301 → k.uses.sar ≡ use_in d k
    unfolding use_in
    in_sar h e = rw (ne_eqb _ _ o, e)

    pub in_lir : (d.command ≡ 300 → ⊥) → (d.command ≡ 301 → ⊥) → d.command ≡ 302 → k.uses.lir ≡ use_in d k
    unfolding use_in
    in_lir h g e = rw (ne_eqb _ _ o, e)

    pub in_mar : (d.command ≡ 300 → ⊥) → (d.command ≡ 301 → ⊥) → (d.command ≡ 302 → ⊥) → k.uses.mar ≡ use_in d k
    unfolding use_in
    in_mar h g f = rw (ne_eqb _ _ o, ne_eqb _ _ h, ne_eqb _ _ g, ne_eqb _ _ f)

-- the row of a number, made of its uses; and of a number that is no known kind's
pub row_with : (n k : ℕ) {code vendor : ℕ} {content : Content} {u v : Uses} {r : Kind} → k ≡ n → u ≡ v → r ≡ row code vendor content u
    → row code vendor content v ≡ row_of n → r ≡ row_of k
row_with n k {code} {vendor} {content} e h d w = d ∙ ap (row code vendor content) h ∙ w ∙ rw e

above : {n k : ℕ} → n ≤ k → (k ≡ n → ⊥) → suc n ≤ k
above h e = omega arith

pub row_past : (k : ℕ) {u : Uses} {r : Kind} → u ≡ everywhere Unknown → r ≡ row 0 0 Free u
    → (k ≡ session_id → ⊥) → (k ≡ application → ⊥) → (k ≡ session_state → ⊥) → (k ≡ origin_host → ⊥)
    → (k ≡ origin_realm → ⊥) → (k ≡ destination_realm → ⊥) → (k ≡ user_name → ⊥) → (k ≡ public_identity → ⊥) → (k ≡ visited_network → ⊥)
    → (k ≡ auth_data_item → ⊥) → (k ≡ number_auth_items → ⊥) → (k ≡ server_name → ⊥) → (k ≡ assignment_type → ⊥) → (k ≡ data_available → ⊥)
    → (k ≡ authorization_type → ⊥) → (k ≡ destination_host → ⊥) → (k ≡ proxy_info → ⊥) → (k ≡ route_record → ⊥)
    → (k ≡ supported_features → ⊥) → (k ≡ user_identity → ⊥) → (k ≡ data_reference → ⊥) → r ≡ row_of k
unfolding row_of known
row_past zero y z a b c d f g h i j l m n o p q s t u v w x = z ∙ ap (row 0 0 Free) y
row_past (suc k) y z a b c d f g h i j l m n o p q s t u v w x =
    let first : session_id ≤ suc k = omega arith in
    let low : suc destination_realm ≤ suc k = above (above (above (above (above (above first a) b) c) d) f) g in
    let middle : suc server_name ≤ suc k = above (above (above (above (above (above low h) i) j) l) m) n in
    let past : kinds ≤ suc k = above (above (above (above (above (above (above (above (above middle o) p) q) s) t) u) v) w) x in
    z ∙ ap (row 0 0 Free) y ∙ sym (get_or-eq_default (unknown ∷ known) unknown past)

-- a code that is none of them
pub base_none : (code : ℕ) → (code ≡ 263 → ⊥) → (code ≡ 260 → ⊥) → (code ≡ 277 → ⊥) → (code ≡ 264 → ⊥) → (code ≡ 296 → ⊥) → (code ≡ 283 → ⊥) → (code ≡ 1 → ⊥)
    → (code ≡ 293 → ⊥) → (code ≡ 284 → ⊥) → (code ≡ 282 → ⊥) → 0 ≡ kind_by 0 0 code
unfolding kind_by kind_from known
base_none code a b c d e f g h i j = simp (ne_eqb, and-false)

pub vendor_none : (code : ℕ) → (code ≡ 601 → ⊥) → (code ≡ 600 → ⊥) → (code ≡ 612 → ⊥) → (code ≡ 607 → ⊥) → (code ≡ 602 → ⊥) → (code ≡ 614 → ⊥)
    → (code ≡ 624 → ⊥) → (code ≡ 623 → ⊥) → (code ≡ 628 → ⊥) → (code ≡ 700 → ⊥) → (code ≡ 703 → ⊥) → 0 ≡ kind_by 128 10415 code
unfolding kind_by kind_from known
vendor_none code a b c d e f g h i j k = simp (ne_eqb, and-false)

-- without V; with V and the vendor; with V and another
module _ (flags vendor code : ℕ) {r : ℕ} where
  pub kind_base : flags < 128 → r ≡ kind_by 0 0 code → r ≡ kind_by flags vendor code
  unfolding kind_by kind_from known
  kind_base h e = e ∙ simp (lt-leb _ _ h)

  pub kind_vendor : 128 ≤ flags → vendor ≡ 10415 → r ≡ kind_by 128 10415 code → r ≡ kind_by flags vendor code
  unfolding kind_by kind_from known
  kind_vendor h v e = e ∙ simp (le-leb _ _ h, v)

pub kind_stranger : (flags vendor code : ℕ) → 128 ≤ flags → (vendor ≡ 10415 → ⊥) → 0 ≡ kind_by flags vendor code
unfolding kind_by kind_from known
kind_stranger flags vendor code h v = simp (le-leb _ _ h, ne_eqb _ _ v, and-false)

-- the kind of an AVP
pub kind_there : (s : List ℕ) (a : Avp) → Here s a → (vendor code r : ℕ) → vendor ≡ vendor_of (own_of s a) → code ≡ avp_code (own_of s a)
    → r ≡ kind_by a.flags vendor code → r ≡ kind_of (own_of s a)
kind_there s a h vendor code r ev ec e = e ∙ rw (own_flags s a h, ← ev, ← ec)
