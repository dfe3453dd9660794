-- A small table and User-Data-Requests, and all definitions that a computed case opens.
use Rattle.octets.specs.Standard.{ℕ, zero, suc, ◌+◌, ◌-◌, ◌%◌, ◌^◌, List, [], ◌∷◌, ◌++◌, length, get_or, drop, replicate}
use Rattle.octets.specs.All.{all_below}
use Rattle.octets.specs.Name.{order_of, alike_at, same}
use Rattle.octets.specs.Number.{four, be16_at, be24_at, be32_at, put_be24}
use Rattle.octets.specs.Run.{zeros, zero_between, over}
use Rattle.octets.specs.Sum.{sum_words}
use Rattle.record.specs.Fields.{host_of, realm_of, public_of, private_of, server_of}
use Rattle.record.specs.HeaderBlock.{header_of, sound_header}
use Rattle.record.specs.Networks.{used_place, sound_place, same_byte, other_place, new_place, sound_networks}
use Rattle.record.specs.RecordBlock.{record_of, sound_record}
use Rattle.record.specs.Sets.{same_set, agreeing}
use Rattle.blocks.specs.Blocks.{block_of, first_bad}
use Rattle.blocks.specs.Sealed.{negated}
use Rattle.table.specs.Area.{size_in, table_in, check_area}
use Rattle.table.specs.Named.{public_at}
use Rattle.table.specs.Check.{rises_at, stands_at, agrees_with, agrees_at, sound_at, check_records, check_table}
use Rattle.lookup.specs.Find.{first_from, public_is, find_public}
use Rattle.diameter.specs.Avp.{padded, head_of, vendor_of, value_of, sound}
use Rattle.diameter.specs.Walk.{walk_from, walk, some_avp}
use Rattle.diameter.specs.AvpAt.{avp_of}
use Rattle.pen.specs.Bytes.{word_bytes, head_bytes, padding, vendor_head, copied, avp_bytes, vendor_bytes, number_bytes, vendor_number, group, if_there}
use Rattle.pen.specs.Groups.{vendor_application, experimental, failed}
use Rattle.reading.specs.Kinds.{known, kind_from, kind_by, row_of, use_in}
use Rattle.reading.specs.Contents.{number_fault, plain_fault}
use Rattle.reading.specs.Groups.{application_members, identity_members, members_of, is_of, fits, unlike, only_of, members_fitting, enough}
use Rattle.reading.specs.Groups.{enough_at, gathers, too_often, group_fault}
use Rattle.reading.specs.Rules.{content_fault, rule_by, rule}
use Rattle.reading.specs.Verdicts.{number_of}
use Rattle.requests.specs.Judged.{nothing, judge}
use Rattle.requests.specs.Request.{sh, header_fault_sh, missing_from, missing, complete, read_walk, read_sh}
use Rattle.failed.specs.Failing.{head_part, alone, failed_of, sample, example_of, failed_by}
use Rattle.refusals.specs.Early.{wrong_length}
use Rattle.refusals.specs.Trial.{tried}
use Rattle.envelope.specs.End.{proxy, proxies, end_bytes}
use Rattle.envelope.specs.Front.{result_bytes, front_bytes, origin_bytes}
use Rattle.envelope.specs.Header.{flags_of, header_bytes}
use Rattle.markup.specs.Escapes.{escapes, escape_by, escape_of, escaped}
use Rattle.user_data.specs.UserData.{user_state, name_text, state_text, name_element, state_element, sh_text, user_data_bytes}
use Rattle.sh.specs.Answer.{record_bytes, told_bytes, sh_body, sh_answer}
use Rattle.sh.specs.Referring.{refers, refers_other, references_of}
use Rattle.sh.specs.Tell.{tell_record, tell_found, tell_read, tell_judged, tell}
use Rattle.ndushavire_sh.specs.Serve.{refused, answered, serve_checked}

-- `h` and `r`
unfoldable pub host : List ℕ
host = 0x68 ∷ []

unfoldable pub realm : List ℕ
realm = 0x72 ∷ []

-- a field of n bytes with a name in it; 508 bytes with their check word
unfoldable pub field : ℕ → List ℕ → List ℕ
field n name = name ++ replicate (n - length name) 0

unfoldable pub words_of : ℕ → List ℕ → ℕ
words_of zero b = 0
words_of (suc n) b = four (get_or b 0 0) (get_or b 1 0) (get_or b 2 0) (get_or b 3 0) + words_of n (drop 4 b)

unfoldable pub checked : List ℕ → List ℕ
checked b = b ++ word_bytes (negated (words_of 127 b % 2 ^ 32))

unfoldable pub header : ℕ → List ℕ
header count = checked (1 ∷ 1 ∷ replicate 9 0 ++ (count ∷ 0 ∷ 1 ∷ 1 ∷ 0 ∷ field 64 host ++ (field 64 realm ++ replicate 364 0)))

-- record k: a public identity of one byte, the private identity `p`, a state, bits and a server name
unfoldable pub line : ℕ → ℕ → ℕ → ℕ → List ℕ → List ℕ
line k public state bits server =
    let names = field 128 (public ∷ []) ++ (field 128 (0x70 ∷ []) ++ (field 96 server ++ replicate 140 0)) in
    checked (2 ∷ 1 ∷ replicate 5 0 ++ (k ∷ state ∷ bits ∷ 0 ∷ 0 ∷ 0 ∷ 1 ∷ 1 ∷ length server ∷ names))

-- `<&s`
unfoldable pub server : List ℕ
server = 0x3C ∷ 0x26 ∷ 0x73 ∷ []

-- `>"'`
unfoldable pub quotes : List ℕ
quotes = 0x3E ∷ 0x22 ∷ 0x27 ∷ []

-- .. as it is told: `&gt;&quot;&apos;`
unfoldable pub marks : List ℕ
marks = 0x26 ∷ 0x67 ∷ 0x74 ∷ 0x3B ∷ 0x26 ∷ 0x71 ∷ 0x75 ∷ 0x6F ∷ 0x74 ∷ 0x3B ∷ 0x26 ∷ 0x61 ∷ 0x70 ∷ 0x6F ∷ 0x73 ∷ 0x3B ∷ []

-- `a` registered at `<&s`, and pending; `b` not registered; `c` pending at `<&s`; `d` unregistered at `>"'`
unfoldable pub table : List ℕ
table = header 4 ++ (line 1 0x61 1 1 server ++ (line 2 0x62 0 0 [] ++ (line 3 0x63 0 1 server ++ line 4 0x64 2 0 quotes)))

-- a request of a command and an application with a body
unfoldable pub request : ℕ → ℕ → List ℕ → List ℕ
request command application body =
    let head : List ℕ =
    0x01 ∷ 0x00 ∷ 0x00 ∷ 0x00 ∷ 0xC0 ∷ 0x00 ∷ 0x00 ∷ 0x00 ∷ 0x01 ∷ 0x00 ∷ 0x00 ∷ application ∷ 0x00 ∷ 0x00 ∷ 0x00 ∷ 0x01
    ∷ 0x00 ∷ 0x00 ∷ 0x00 ∷ 0x02 ∷ [] in
    put_be24 (put_be24 head 1 (20 + length body)) 5 command ++ body

-- what every request needs, with a 260 of an application: the next AVP begins at 112
unfoldable pub common : ℕ → List ℕ
common application =
    avp_bytes 263 (0x73 ∷ []) ++ (vendor_application application ++
    (number_bytes 277 1 ++ (avp_bytes 264 (0x63 ∷ []) ++ (avp_bytes 296 (0x72 ∷ []) ++ avp_bytes 283 (0x72 ∷ [])))))

-- a User-Data-Request with these AVPs behind; a 700 of an identity of one byte, and Data-References
unfoldable pub udr : List ℕ → List ℕ
udr avps = request 306 1 (common sh ++ avps)

unfoldable pub identity : ℕ → List ℕ
identity public = vendor_bytes 700 (vendor_bytes 601 (public ∷ []))

-- a 601 at the top level, where it is unknown, with the flags
unfoldable pub outside : ℕ → ℕ → List ℕ
outside flags public = head_bytes 601 flags 13 ++ (word_bytes 10415 ++ (public ∷ 0 ∷ 0 ∷ 0 ∷ []))

-- 703 of 11, 12 and 10
unfoldable pub state : List ℕ
state = vendor_number 703 11

unfoldable pub name : List ℕ
name = vendor_number 703 12

unfoldable pub other : List ℕ
other = vendor_number 703 10

unfoldable pub ask : ℕ → List ℕ → List ℕ
ask public references = udr (identity public ++ references)

-- the answer: its result, and what follows the realm
unfoldable pub reply : List ℕ → List ℕ → List ℕ
reply result rest =
    let own = avp_bytes 264 host ++ (avp_bytes 296 realm ++ rest) in
    let body = avp_bytes 263 (0x73 ∷ []) ++ (vendor_application sh ++ (result ++ (number_bytes 277 1 ++ own))) in
    let head : List ℕ =
    0x01 ∷ 0x00 ∷ 0x00 ∷ 0x00 ∷ 0x40 ∷ 0x00 ∷ 0x01 ∷ 0x32 ∷ 0x01 ∷ 0x00 ∷ 0x00 ∷ 0x01 ∷ 0x00 ∷ 0x00 ∷ 0x00 ∷ 0x01
    ∷ 0x00 ∷ 0x00 ∷ 0x00 ∷ 0x02 ∷ [] in
    put_be24 head 1 (20 + length body) ++ body

-- all that a case opens
unfoldable pub opened : ℕ
unfolding host realm field words_of checked header line server quotes marks table request common udr identity outside state name other ask reply all_below
    order_of alike_at same be16_at be24_at be32_at put_be24 zeros zero_between over sum_words host_of realm_of public_of private_of server_of header_of sound_header
    used_place sound_place same_byte other_place new_place sound_networks record_of sound_record same_set agreeing block_of first_bad negated size_in table_in check_area
    public_at rises_at stands_at agrees_with agrees_at sound_at check_records check_table first_from public_is find_public padded head_of vendor_of value_of sound walk_from
    walk some_avp avp_of padding vendor_head copied avp_bytes vendor_bytes number_bytes vendor_number group if_there vendor_application experimental failed known
    kind_from kind_by row_of use_in number_fault plain_fault application_members identity_members members_of is_of fits unlike only_of members_fitting enough enough_at
    gathers too_often group_fault content_fault rule_by rule number_of nothing judge header_fault_sh missing_from missing complete read_walk read_sh head_part alone
    failed_of sample example_of failed_by wrong_length tried proxy proxies end_bytes result_bytes front_bytes origin_bytes flags_of header_bytes escapes escape_by
    escape_of escaped user_state name_text state_text name_element state_element sh_text user_data_bytes record_bytes told_bytes sh_body sh_answer refers refers_other
    references_of tell_record tell_found tell_read tell_judged tell refused answered serve_checked
opened = 0
