-- What the worked cases and the instances of the demands share: names, blocks, a SAR and its answer, and all definitions that a computed case opens.
use Rattle.octets.specs.Standard.{ℕ, zero, suc, ◌+◌, ◌-◌, ◌%◌, ◌^◌, List, [], ◌∷◌, ◌++◌, length, get_or, drop, replicate, set}
use Rattle.octets.specs.All.{all_below}
use Rattle.octets.specs.Name.{order_of, alike_at, same}
use Rattle.octets.specs.Number.{four, be16_at, be24_at, be32_at, put_be24, put_be32}
use Rattle.octets.specs.Run.{zeros, zero_between, put_name, over}
use Rattle.octets.specs.Sum.{sum_words}
use Rattle.record.specs.Fields.{host_of, realm_of, public_of, private_of, server_of, mandatory_of, optional_of, profile_of}
use Rattle.record.specs.HeaderBlock.{header_of, sound_header}
use Rattle.record.specs.Networks.{network_of, used_place, sound_place, same_byte, other_place, new_place, sound_networks}
use Rattle.record.specs.RecordBlock.{record_of, sound_record}
use Rattle.record.specs.Sets.{same_set, agreeing}
use Rattle.blocks.specs.Blocks.{block_of, table_of, first_bad}
use Rattle.table.specs.Named.{public_at, private_at}
use Rattle.table.specs.Check.{rises_at, stands_at, agrees_with, agrees_at, sound_at, check_records, check_table}
use Rattle.lookup.specs.Find.{first_from, public_is, find_public, private_is, find_private, server_here, serves_at, find_server, free_here, free_at, find_free}
use Rattle.lookup.specs.Find.{barred_alone}
use Rattle.lookup.specs.Network.{network_is, seek, network_number, roams_in, may_roam}
use Rattle.blocks.specs.Changed.{changed_at, changed_all, is_one}
use Rattle.blocks.specs.Sealed.{negated, sealed}
use Rattle.vectors.specs.VectorBlock.{vector_of, sound_vector, card_of, rand_autn_of, xres_of, confidentiality_of, integrity_of}
use Rattle.vectors.specs.VectorFile.{pieces_of, sound_piece, check_vectors}
use Rattle.vectors.specs.Chosen.{first_ones, unused_here, unused_at, unused_of, packed}
use Rattle.vectors.specs.Scheme.{scheme}
use Rattle.vectors.specs.Marked.{marked_used, spent}
use Rattle.rewrite.specs.Change.{after_of, reaches}
use Rattle.rewrite.specs.Renew.{renewed, settled, challenged}
use Rattle.diameter.specs.Avp.{padded, head_of, vendor_of, value_of, sound}
use Rattle.diameter.specs.Walk.{walk_from, walk, some_avp}
use Rattle.diameter.specs.AvpAt.{avp_of}
use Rattle.pen.specs.Bytes.{word_bytes, padding, vendor_head, copied, avp_bytes, vendor_bytes, number_bytes, vendor_number, group, vendor_group, if_there}
use Rattle.pen.specs.Bytes.{head_bytes, plain_head, plain_number}
use Rattle.pen.specs.Groups.{vendor_application, experimental, failed, vendor_numbers, capabilities, own_features}
use Rattle.reading.specs.Kinds.{known, kind_from, kind_by, row_of, use_in}
use Rattle.reading.specs.Contents.{number_fault, plain_fault}
use Rattle.reading.specs.Features.{clear_or_in, bit_outside, member_value, asks_other, asks, asks_beyond, passes, calls_list}
use Rattle.reading.specs.Groups.{application_members, item_members, feature_members, members_of, is_of, fits, unlike, only_of, members_fitting, enough}
use Rattle.reading.specs.Groups.{enough_at, gathers, too_often, group_fault}
use Rattle.reading.specs.Rules.{content_fault, rule_by, rule}
use Rattle.requests.specs.Features.{beyond_set, list_called}
use Rattle.requests.specs.Judged.{nothing, judge}
use Rattle.requests.specs.Request.{cx, header_fault, missing_from, missing, complete, read_walk, read_in, identities}
use Rattle.items.specs.Items.{challenge_bytes, key_bytes, item_bytes, items_bytes, numbered_bytes, sent_bytes}
use Rattle.choices.specs.Challenges.{claim_of, challenge_of}
use Rattle.choices.specs.Choices.{authorization, location}
use Rattle.choices.specs.Plans.{finding_of, grant, deed_of, plan_of}
use Rattle.choices.specs.Types.{type_of}
use Rattle.questions.specs.Carried.{carried}
use Rattle.questions.specs.Authentication.{claimed_at, claimed_of, to_send, authenticate_found, authenticate}
use Rattle.questions.specs.Authorization.{asked_at, asked_of, authorize_found, authorize}
use Rattle.questions.specs.Location.{sought_at, sought_of, locate_found, locate}
use Rattle.requests.specs.Identity.{places_from}
use Rattle.assignment.specs.Assignment.{meant_by, every, find_all, numbers_of, owned_here, owned_up_to, own_at, stores_at, fits_at, right_at, survey_of}
use Rattle.assignment.specs.Assignment.{user_known, owner_by, named_survey, owned_survey, assign_meant, assign, stored_name, planned_records}
use Rattle.deciding.specs.Deeds.{carried_out, spent_by}
use Rattle.deciding.specs.Plans.{assignment_of, uar_plan, sar_plan, lir_plan, mar_plan, plan_read}
use Rattle.deciding.specs.Decide.{performed_by, judged_by, decide_by}
use Rattle.reading.specs.Verdicts.{number_of}
use Rattle.failed.specs.Failing.{head_part, alone, failed_of, sample, example_of, failed_by}
use Rattle.envelope.specs.Front.{result_bytes, front_bytes, origin_bytes}
use Rattle.envelope.specs.Header.{flags_of, header_bytes}
use Rattle.reply.specs.Pieces.{list_bytes, top_bytes, identity_bytes, name_bytes, data_bytes, given_bytes}
use Rattle.envelope.specs.End.{proxy, proxies, end_bytes}
use Rattle.answering.specs.Answer.{rest_bytes, body_bytes, answer_bytes}
use Rattle.refusals.specs.Trial.{tried}
use Rattle.refusals.specs.Early.{wrong_length}
use Rattle.calling.specs.Serve.{refused, answered_by, serve_found, serve_table_by}

-- `hss.isle` and `isle`
unfoldable pub host : List ℕ
host = 0x68 ∷ 0x73 ∷ 0x73 ∷ 0x2E ∷ 0x69 ∷ 0x73 ∷ 0x6C ∷ 0x65 ∷ []

unfoldable pub realm : List ℕ
realm = 0x69 ∷ 0x73 ∷ 0x6C ∷ 0x65 ∷ []

-- a block of zeros; a field of n bytes with a name in it; 508 bytes with their check word. A list is made from its front to its end and the words are added
-- in one pass, since a case computes its samples as often as it looks at them.
unfoldable pub block : List ℕ
block = replicate 512 0

unfoldable pub field : ℕ → List ℕ → List ℕ
field n name = name ++ replicate (n - length name) 0

unfoldable pub words_of : ℕ → List ℕ → ℕ
words_of zero b = 0
words_of (suc n) b = four (get_or b 0 0) (get_or b 1 0) (get_or b 2 0) (get_or b 3 0) + words_of n (drop 4 b)

unfoldable pub checked : List ℕ → List ℕ
checked b = b ++ word_bytes (negated (words_of 127 b % 2 ^ 32))

-- a header of so many records that keeps names or not
unfoldable pub header : ℕ → ℕ → List ℕ
header count keep = checked (1 ∷ 1 ∷ replicate 9 0 ++ (count ∷ keep ∷ 8 ∷ 4 ∷ 0 ∷ field 64 host ++ (field 64 realm ++ replicate 364 0)))

-- record k: a public and a private identity of one byte each, a state, bits and a server name; the same without a bit set
unfoldable pub subscriber : ℕ → ℕ → ℕ → ℕ → ℕ → List ℕ → List ℕ
subscriber k public private state bits server =
    let names = field 128 (public ∷ []) ++ (field 128 (private ∷ []) ++ (field 96 server ++ replicate 140 0)) in
    checked (2 ∷ 1 ∷ replicate 5 0 ++ (k ∷ state ∷ bits ∷ 0 ∷ 0 ∷ 0 ∷ 1 ∷ 1 ∷ length server ∷ names))

unfoldable pub person : ℕ → ℕ → ℕ → ℕ → List ℕ → List ℕ
person k public private state server = subscriber k public private state 0 server

-- a vector, used or not, for a private identity of one byte: RAND and AUTN of the byte n, an XRES of five bytes n + 1, keys of n + 2 and of n + 3
unfoldable pub vector : ℕ → ℕ → ℕ → List ℕ
vector used private n =
    let keys = replicate 16 (n + 2) ++ (replicate 16 (n + 3) ++ replicate 296 0) in
    checked (3 ∷ used ∷ 5 ∷ 1 ∷ field 128 (private ∷ []) ++ (replicate 32 n ++ (field 16 (replicate 5 (n + 1)) ++ keys)))

-- a buffer of the least room
unfoldable pub room : List ℕ
room = replicate 36864 0

-- a request of a command with a body; its header as in the worked case
unfoldable pub request : ℕ → List ℕ → List ℕ
request command body =
    let head : List ℕ =
    0x01 ∷ 0x00 ∷ 0x00 ∷ 0x00 ∷ 0xC0 ∷ 0x00 ∷ 0x00 ∷ 0x00 ∷ 0x01 ∷ 0x00 ∷ 0x00 ∷ 0x00 ∷ 0x00 ∷ 0x00 ∷ 0x00 ∷ 0x01
    ∷ 0x00 ∷ 0x00 ∷ 0x00 ∷ 0x02 ∷ [] in
    put_be24 (put_be24 head 1 (20 + length body)) 5 command ++ body

-- the answer to a request of a command and of the Session-Id `s`: its result, and what follows the realm; to a SAR
unfoldable pub reply : ℕ → List ℕ → List ℕ → List ℕ
reply command result rest =
    let own = avp_bytes 264 host ++ (avp_bytes 296 realm ++ rest) in
    set (request command (avp_bytes 263 (0x73 ∷ []) ++ (vendor_application cx ++ (result ++ (number_bytes 277 1 ++ own))))) 4 0x40

unfoldable pub answer : List ℕ → List ℕ → List ℕ
answer result rest = reply 301 result rest

-- what every request needs, and a SAR of a type for the identity `a` with a server name
unfoldable pub common : List ℕ
common =
    avp_bytes 263 (0x73 ∷ []) ++ (vendor_application cx ++
    (number_bytes 277 1 ++ (avp_bytes 264 (0x63 ∷ []) ++ (avp_bytes 296 (0x72 ∷ []) ++ avp_bytes 283 (0x72 ∷ [])))))

unfoldable pub assignment : ℕ → List ℕ → List ℕ
assignment kind server = request 301 (common ++ (vendor_bytes 601 (0x61 ∷ []) ++ (vendor_bytes 602 server ++ (vendor_number 614 kind ++ vendor_number 624 1))))

-- a 628 of some flags, which asks for bits of a list of a vendor; the SAR with AVPs between those that every request needs and its own: they begin at 112
unfoldable pub feature : ℕ → ℕ → ℕ → ℕ → List ℕ
feature flags vendor list bits =
    head_bytes 628 flags 56 ++ (word_bytes 10415 ++ (number_bytes 266 vendor ++ (vendor_number 629 list ++ vendor_number 630 bits)))

unfoldable pub assignment_with : List ℕ → ℕ → List ℕ → List ℕ
assignment_with avps kind server =
    request 301 (common ++ (avps ++ (vendor_bytes 601 (0x61 ∷ []) ++ (vendor_bytes 602 server ++ (vendor_number 614 kind ++ vendor_number 624 1)))))

-- a 608 of the one scheme that is served; a MAR of a private and a public identity of one byte each: what its 612 holds, the number asked, a server name
unfoldable pub digest : List ℕ
digest = vendor_bytes 608 scheme

unfoldable pub authentication_of : ℕ → ℕ → List ℕ → ℕ → List ℕ → List ℕ
authentication_of private public held number server =
    let asked = vendor_bytes 612 held ++ (vendor_number 607 number ++ vendor_bytes 602 server) in
    request 303 (common ++ (avp_bytes 1 (private ∷ []) ++ (vendor_bytes 601 (public ∷ []) ++ asked)))

-- a right MAR of `p` and `a`; item i of the answer to it, from a vector of the byte n; the answer with the number sent and the items
unfoldable pub authentication : ℕ → List ℕ → List ℕ
authentication number server = authentication_of 0x70 0x61 digest number server

unfoldable pub item : ℕ → ℕ → List ℕ
item i n =
    let keys = vendor_bytes 610 (replicate 5 (n + 1)) ++ (vendor_bytes 625 (replicate 16 (n + 2)) ++ vendor_bytes 626 (replicate 16 (n + 3))) in
    vendor_bytes 612 (vendor_number 613 i ++ (digest ++ (vendor_bytes 609 (replicate 32 n) ++ keys)))

unfoldable pub challenges : ℕ → List ℕ → List ℕ
challenges number items =
    reply 303 (number_bytes 268 2001) (avp_bytes 1 (0x70 ∷ []) ++ (vendor_bytes 601 (0x61 ∷ []) ++ (vendor_number 607 number ++ items)))

-- one record `a` of a state and a server name under a header that keeps names or not; one with pending set; two of one public identity
unfoldable pub one : ℕ → ℕ → List ℕ → List ℕ
one keep state server = header 1 keep ++ person 1 0x61 0x70 state server

unfoldable pub waiting : ℕ → List ℕ → List ℕ
waiting state server = header 1 0 ++ subscriber 1 0x61 0x70 state 1 server

unfoldable pub two : List ℕ
two = header 2 0 ++ (person 1 0x61 0x70 0 [] ++ person 2 0x61 0x70 0 [])

-- two server names
unfoldable pub s : List ℕ
s = 0x73 ∷ []

unfoldable pub z : List ℕ
z = 0x7A ∷ []

-- all that a case opens
unfoldable pub opened : ℕ
unfolding host realm block field words_of checked header subscriber person vector request reply answer common assignment feature assignment_with digest authentication_of
    authentication item challenges one waiting two s z all_below order_of alike_at same be16_at be24_at be32_at put_be24 put_be32 zeros zero_between put_name over
    sum_words host_of realm_of public_of private_of server_of header_of sound_header network_of used_place sound_place same_byte other_place new_place sound_networks
    record_of sound_record block_of table_of public_at private_at same_set agreeing rises_at stands_at agrees_with agrees_at sound_at first_bad check_records check_table
    first_from public_is find_public private_is find_private server_here serves_at find_server free_here free_at find_free barred_alone network_is seek network_number
    roams_in negated sealed renewed settled challenged changed_at changed_all after_of reaches vector_of sound_vector card_of rand_autn_of xres_of confidentiality_of
    integrity_of pieces_of sound_piece check_vectors first_ones unused_here unused_at unused_of packed is_one marked_used spent padded head_of vendor_of value_of sound
    walk_from walk avp_of padding vendor_head copied avp_bytes vendor_bytes number_bytes vendor_number group vendor_group if_there vendor_application experimental
    failed vendor_numbers capabilities known kind_from kind_by row_of use_in number_fault plain_fault application_members item_members members_of is_of fits unlike
    only_of members_fitting enough enough_at gathers too_often group_fault content_fault nothing rule_by rule judge header_fault head_part alone failed_of sample
    example_of failed_by missing_from missing complete read_walk read_in identities places_from mandatory_of optional_of profile_of may_roam authorization location
    finding_of grant deed_of plan_of claim_of challenge_of type_of carried asked_at asked_of authorize_found authorize sought_at sought_of locate_found locate claimed_at claimed_of
    to_send authenticate_found authenticate meant_by every find_all numbers_of owned_here owned_up_to own_at stores_at fits_at right_at survey_of user_known owner_by
    named_survey owned_survey assign_meant assign stored_name planned_records carried_out spent_by assignment_of uar_plan sar_plan lir_plan mar_plan plan_read
    performed_by judged_by decide_by number_of result_bytes front_bytes origin_bytes top_bytes identity_bytes name_bytes data_bytes given_bytes proxy proxies end_bytes
    challenge_bytes key_bytes item_bytes items_bytes numbered_bytes sent_bytes rest_bytes body_bytes flags_of header_bytes answer_bytes tried wrong_length refused
    answered_by serve_found serve_table_by some_avp plain_head plain_number own_features feature_members clear_or_in bit_outside member_value asks_other asks asks_beyond
    passes calls_list beyond_set list_called list_bytes
opened = 0
