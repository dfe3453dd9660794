-- "as User-Data 702 in the XML of 3GPP TS 29.328": its bytes, as docs/SH.md fixes them.
use Rattle.std.specs.Prelude.{ℕ, ◌+◌, Bool, cond, ◌&&◌, List, [], ◌∷◌, ◌++◌, length, eqb, ltb}
use Rattle.markup.specs.Escapes.{escaped}
use Rattle.pen.specs.Bytes.{vendor_bytes, if_there}
use Rattle.user_data.specs.declared.References.{References}

-- `<?xml version="1.0" encoding="UTF-8"?><Sh-Data><Sh-IMS-Data>`
abbrev pub opening : List ℕ
opening =
    0x3C ∷ 0x3F ∷ 0x78 ∷ 0x6D ∷ 0x6C ∷ 0x20 ∷ 0x76 ∷ 0x65 ∷ 0x72 ∷ 0x73 ∷ 0x69 ∷ 0x6F ∷ 0x6E ∷ 0x3D ∷ 0x22 ∷ 0x31 ∷ 0x2E ∷ 0x30 ∷ 0x22 ∷ 0x20
    ∷ 0x65 ∷ 0x6E ∷ 0x63 ∷ 0x6F ∷ 0x64 ∷ 0x69 ∷ 0x6E ∷ 0x67 ∷ 0x3D ∷ 0x22 ∷ 0x55 ∷ 0x54 ∷ 0x46 ∷ 0x2D ∷ 0x38 ∷ 0x22 ∷ 0x3F ∷ 0x3E ∷ 0x3C ∷ 0x53
    ∷ 0x68 ∷ 0x2D ∷ 0x44 ∷ 0x61 ∷ 0x74 ∷ 0x61 ∷ 0x3E ∷ 0x3C ∷ 0x53 ∷ 0x68 ∷ 0x2D ∷ 0x49 ∷ 0x4D ∷ 0x53 ∷ 0x2D ∷ 0x44 ∷ 0x61 ∷ 0x74 ∷ 0x61 ∷ 0x3E ∷ []

-- `<SCSCFName>`
abbrev pub name_start : List ℕ
name_start =
    0x3C ∷ 0x53 ∷ 0x43 ∷ 0x53 ∷ 0x43 ∷ 0x46 ∷ 0x4E ∷ 0x61 ∷ 0x6D ∷ 0x65 ∷ 0x3E ∷ []

-- `</SCSCFName>`
abbrev pub name_end : List ℕ
name_end =
    0x3C ∷ 0x2F ∷ 0x53 ∷ 0x43 ∷ 0x53 ∷ 0x43 ∷ 0x46 ∷ 0x4E ∷ 0x61 ∷ 0x6D ∷ 0x65 ∷ 0x3E ∷ []

-- `<IMSUserState>`
abbrev pub state_start : List ℕ
state_start =
    0x3C ∷ 0x49 ∷ 0x4D ∷ 0x53 ∷ 0x55 ∷ 0x73 ∷ 0x65 ∷ 0x72 ∷ 0x53 ∷ 0x74 ∷ 0x61 ∷ 0x74 ∷ 0x65 ∷ 0x3E ∷ []

-- `</IMSUserState>`
abbrev pub state_end : List ℕ
state_end =
    0x3C ∷ 0x2F ∷ 0x49 ∷ 0x4D ∷ 0x53 ∷ 0x55 ∷ 0x73 ∷ 0x65 ∷ 0x72 ∷ 0x53 ∷ 0x74 ∷ 0x61 ∷ 0x74 ∷ 0x65 ∷ 0x3E ∷ []

-- `</Sh-IMS-Data></Sh-Data>`
abbrev pub closing : List ℕ
closing =
    0x3C ∷ 0x2F ∷ 0x53 ∷ 0x68 ∷ 0x2D ∷ 0x49 ∷ 0x4D ∷ 0x53 ∷ 0x2D ∷ 0x44 ∷ 0x61 ∷ 0x74 ∷ 0x61 ∷ 0x3E ∷ 0x3C ∷ 0x2F ∷ 0x53 ∷ 0x68 ∷ 0x2D ∷ 0x44
    ∷ 0x61 ∷ 0x74 ∷ 0x61 ∷ 0x3E ∷ []

-- 0 not registered, 1 registered, 2 registered for unregistered services, 3 authentication pending: of a record's state and its bit pending
unfoldable pub user_state : ℕ → Bool → ℕ
user_state state pending = cond (eqb state 1) 1 (cond (eqb state 2) 2 (cond pending 3 0))

-- the server name, escaped, and the state's digit, each as its element
unfoldable pub name_text : List ℕ → List ℕ
name_text name = name_start ++ (escaped name ++ name_end)

unfoldable pub state_text : ℕ → List ℕ
state_text n = state_start ++ ((0x30 + n) ∷ state_end)

-- an element is there if it was asked for; that of the name only if one is stored
unfoldable pub name_element : References → List ℕ → List ℕ
name_element r name = if_there (r.name && ltb 0 (length name)) (name_text name)

unfoldable pub state_element : References → ℕ → List ℕ
state_element r n = if_there r.state (state_text n)

-- the data of 702: "elements in the schema's order whatever the order asked"
unfoldable pub sh_text : References → ℕ → List ℕ → List ℕ
sh_text r n name = opening ++ (name_element r name ++ (state_element r n ++ closing))

-- of what was asked, and of a record's state, pending and server name
abbrev pub sh_data : References → ℕ → Bool → List ℕ → List ℕ
sh_data r state pending name = sh_text r (user_state state pending) name

unfoldable pub user_data_bytes : References → ℕ → Bool → List ℕ → List ℕ
user_data_bytes r state pending name = vendor_bytes 702 (sh_data r state pending name)
