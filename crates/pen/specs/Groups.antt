-- The grouped AVPs of an answer.
use Rattle.std.specs.Prelude.{ℕ, zero, suc, ◌+◌, ◌*◌, ◌/◌, List, [], ◌++◌, length, take, drop, ltb}
use Rattle.pen.specs.Bytes.{copied, copied_size, number_bytes, vendor_head, plain_head, plain_number, group, vendor_group, if_there}

-- "260 (266, 258)"; "Experimental-Result 297 (266, 298)"; "Failed-AVP 279"
unfoldable pub vendor_application : ℕ → List ℕ
vendor_application application = group 260 (number_bytes 266 10415 ++ number_bytes 258 application)

unfoldable pub experimental : ℕ → List ℕ
experimental n = group 297 (number_bytes 266 10415 ++ number_bytes 298 n)

unfoldable pub failed : List ℕ → List ℕ
failed a = group 279 (copied a)

abbrev pub failed_size : ℕ → ℕ
failed_size n = 8 + copied_size n

-- the first n words of s, each as an AVP of vendor 10415
unfoldable pub vendor_numbers : ℕ → List ℕ → ℕ → List ℕ
vendor_numbers code s zero = []
vendor_numbers code s (suc n) = vendor_numbers code s n ++ (vendor_head code 16 ++ take 4 (drop (4 * n) s))

abbrev pub words : List ℕ → ℕ
words s = length s / 4

-- "Server-Capabilities 603 (.. 604s, then 605s; absent if none)"
unfoldable pub capabilities : List ℕ → List ℕ → List ℕ
capabilities m o = if_there (ltb 0 (words m + words o)) (vendor_group 603 (vendor_numbers 604 m (words m) ++ vendor_numbers 605 o (words o)))

abbrev pub capabilities_size : ℕ → ℕ → ℕ
capabilities_size m o = 12 + 16 * m + 16 * o

-- "the server's own list .., with flags 0x80 on 628, 629, 630": a set of "bits of list 1 of vendor 10415"
unfoldable pub own_features : ℕ → List ℕ
own_features set = plain_head 628 56 ++ (number_bytes 266 10415 ++ (plain_number 629 1 ++ plain_number 630 set))
