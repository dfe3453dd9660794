-- "Known, vendor 0 without V: .. With V and 10415: .." and "Needed everywhere: ..": one table, with a column for each command of Cx. "known kinds grow by
-- 607, a 4-byte kind, and 612", and by 628. 02 [12]: the Sh server has "its own list of known kinds", which is its column.
use Rattle.std.specs.Prelude.{ℕ, suc, Bool, true, false, cond, ◌&&◌, List, [], ◌∷◌, get_or, eqb, leb, ltb}
use Rattle.diameter.specs.Avp.{avp_flags, avp_code, vendor_of}
use Rattle.reading.specs.declared.Content.{Content}
use Rattle.reading.specs.declared.Content.TheVariants.{Free, Number, Sized, Members}
use Rattle.reading.specs.declared.Dialect.{Dialect}
use Rattle.reading.specs.declared.Kind.{Kind}
use Rattle.reading.specs.declared.group.Group.TheVariants.{Application, AuthDataItem, SupportedFeatures, UserIdentity}
use Rattle.reading.specs.declared.Use.{Use}
use Rattle.reading.specs.declared.Uses.{Uses}
use Rattle.reading.specs.declared.Use.TheVariants.{Unknown, Unnamed, Needed, Optional, Repeated, Several}

-- the use in a UAR, in a SAR, in a LIR, in a MAR, and on Sh, whose one command is the UDR; of a kind that only Cx knows, or only Sh
abbrev pub uses : Use → Use → Use → Use → Use → Uses
uses uar sar lir mar udr = record { uar = uar; sar = sar; lir = lir; mar = mar; udr = udr }

abbrev pub everywhere : Use → Uses
everywhere u = uses u u u u u

abbrev pub of_cx : Use → Use → Use → Use → Uses
of_cx uar sar lir mar = uses uar sar lir mar Unknown

abbrev pub of_sh : Use → Uses
of_sh udr = uses Unknown Unknown Unknown Unknown udr

-- code, vendor, content and uses
abbrev pub row : ℕ → ℕ → Content → Uses → Kind
row code vendor content uses = record { code = code; vendor = vendor; content = content; uses = uses }

-- The known kinds, in the order in which a missing one is looked for; a kind's number is its place here, from 1 on.
unfoldable pub known : List Kind
known =
    row 263 0 Free (everywhere Needed)
    ∷ row 260 0 (Members Application) (everywhere Needed)
    ∷ row 277 0 (Number 1 1) (everywhere Needed)
    ∷ row 264 0 Free (everywhere Needed)
    ∷ row 296 0 Free (everywhere Needed)
    ∷ row 283 0 Free (everywhere Needed)
    ∷ row 1 0 Free (uses Needed Optional Unnamed Needed Optional)
    ∷ row 601 10415 Free (of_cx Needed Repeated Needed Needed)
    ∷ row 600 10415 Free (of_cx Needed Unnamed Unnamed Unnamed)
    ∷ row 612 10415 (Members AuthDataItem) (of_cx Unnamed Unnamed Unnamed Needed)
    ∷ row 607 10415 (Number 0 4294967295) (of_cx Unnamed Unnamed Unnamed Needed)
    ∷ row 602 10415 (Sized 1 96) (of_cx Unnamed Needed Unnamed Needed)
    ∷ row 614 10415 (Number 0 11) (of_cx Unnamed Needed Unnamed Unnamed)
    ∷ row 624 10415 (Number 0 1) (of_cx Unnamed Needed Unnamed Unnamed)
    ∷ row 623 10415 (Number 0 2) (of_cx Optional Unnamed Unnamed Unnamed)
    ∷ row 293 0 Free (everywhere Optional)
    ∷ row 284 0 Free (everywhere Repeated)
    ∷ row 282 0 Free (everywhere Repeated)
    ∷ row 628 10415 (Members SupportedFeatures) (uses Repeated Repeated Repeated Repeated Unnamed)
    ∷ row 700 10415 (Members UserIdentity) (of_sh Needed)
    ∷ row 703 10415 (Number 0 4294967295) (of_sh Several)
    ∷ []

-- Number 0 is the unknown kind's, which is so everywhere.
abbrev pub unknown : Kind
unknown = row 0 0 Free (everywhere Unknown)

-- how many kinds there are, the unknown one among them
abbrev pub kinds : ℕ
kinds = 22

-- the row of a kind's number; that of a number past the last one's is the unknown kind's
unfoldable pub row_of : ℕ → Kind
row_of n = get_or (unknown ∷ known) n unknown

-- the kinds' numbers
abbrev pub session_id : ℕ
session_id = 1

abbrev pub application : ℕ
application = 2

abbrev pub session_state : ℕ
session_state = 3

abbrev pub origin_host : ℕ
origin_host = 4

abbrev pub origin_realm : ℕ
origin_realm = 5

abbrev pub destination_realm : ℕ
destination_realm = 6

abbrev pub user_name : ℕ
user_name = 7

abbrev pub public_identity : ℕ
public_identity = 8

abbrev pub visited_network : ℕ
visited_network = 9

abbrev pub auth_data_item : ℕ
auth_data_item = 10

abbrev pub number_auth_items : ℕ
number_auth_items = 11

abbrev pub server_name : ℕ
server_name = 12

abbrev pub assignment_type : ℕ
assignment_type = 13

abbrev pub data_available : ℕ
data_available = 14

abbrev pub authorization_type : ℕ
authorization_type = 15

abbrev pub destination_host : ℕ
destination_host = 16

abbrev pub proxy_info : ℕ
proxy_info = 17

abbrev pub route_record : ℕ
route_record = 18

abbrev pub supported_features : ℕ
supported_features = 19

abbrev pub user_identity : ℕ
user_identity = 20

abbrev pub data_reference : ℕ
data_reference = 21

-- "kind (vendor, code)": vendor 0 is without V, and "V with vendor 0 is an unknown kind"
abbrev pub is_kind : Kind → ℕ → ℕ → ℕ → Bool
is_kind k flags vendor code = eqb code k.code && cond (leb 128 flags) (ltb 0 k.vendor && eqb vendor k.vendor) (eqb k.vendor 0)

unfoldable pub kind_from : List Kind → ℕ → ℕ → ℕ → ℕ → ℕ
kind_from [] n flags vendor code = 0
kind_from (k ∷ ks) n flags vendor code = cond (is_kind k flags vendor code) n (kind_from ks (suc n) flags vendor code)

-- the number of a kind, 0 where it is unknown
unfoldable pub kind_by : ℕ → ℕ → ℕ → ℕ
kind_by flags vendor code = kind_from known 1 flags vendor code

abbrev pub kind_of : List ℕ → ℕ
kind_of a = kind_by (avp_flags a) (vendor_of a) (avp_code a)

-- the applications Cx and Sh
abbrev pub cx : ℕ
cx = 16777216

abbrev pub sh : ℕ
sh = 16777217

-- What a dialect makes of a kind: on Sh by its own list, whatever the command; else by the command, UAR 300, SAR 301, LIR 302, MAR 303 (no other passes the
-- header's test); and of an AVP
unfoldable pub use_in : Dialect → Kind → Use
use_in d k =
    cond (eqb d.terms.application sh) k.uses.udr
    (cond (eqb d.command 300) k.uses.uar
    (cond (eqb d.command 301) k.uses.sar
    (cond (eqb d.command 302) k.uses.lir
    k.uses.mar)))

abbrev pub use_of : Dialect → List ℕ → Use
use_of d a = use_in d (row_of (kind_of a))

abbrev pub is_unknown : Use → Bool
is_unknown Unknown = true
is_unknown Unnamed = false
is_unknown Needed = false
is_unknown Optional = false
is_unknown Repeated = false
is_unknown Several = false

abbrev pub is_needed : Use → Bool
is_needed Unknown = false
is_needed Unnamed = false
is_needed Needed = true
is_needed Optional = false
is_needed Repeated = false
is_needed Several = true
