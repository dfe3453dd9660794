-- The list of a table, and what import makes of it and of others like it, computed by the definitions.
use Rattle.std.specs.Prelude.{Ok, Err}
use Rattle.octets.specs.Standard.{[], ◌∷◌, ◌++◌, ◌≡◌, refl, take, replicate}
use Rattle.table.specs.Check.{check_table}
use Rattle.listing.specs.ListOf.{first_line, list_of}
use Rattle.importing.specs.Above.{above}
use Rattle.importing.specs.Said.{table_said, first_wrong}
use Rattle.list_example.proofs.Sample.{header, table, line1, line2, list, opened}

pub sound : check_table table 7 ≡ Ok 2
unfolding opened
sound = refl

-- the list, and the table that it says
pub listed : list_of table ≡ list
unfolding opened
listed = refl

pub said : table_said list (header 2 2) ≡ table
unfolding opened
said = refl

pub whole : first_wrong list (header 2 2) 7 ≡ Ok 2
unfolding opened
whole = refl

-- a first line cut, a line missing, one too many, one whose CR is missing, one out of order, a profile past the file
pub untitled : first_wrong (take 120 list) (header 2 2) 7 ≡ Err 0
unfolding opened
untitled = refl

pub missing : first_wrong (first_line ++ line1) (header 2 2) 7 ≡ Err 2
unfolding opened
missing = refl

pub surplus : first_wrong (list ++ (10 ∷ [])) (header 2 2) 7 ≡ Err 3
unfolding opened
surplus = refl

pub unordered : first_wrong (first_line ++ (line2 ++ line1)) (header 2 2) 7 ≡ Err 2
unfolding opened
unordered = refl

pub outside : first_wrong list (header 2 2) 6 ≡ Err 2
unfolding opened
outside = refl

-- names left above one of 127 and one of 128 bytes
pub above_127 : above 128 (replicate 126 126 ++ (100 ∷ [])) ≡ 2591
unfolding opened
above_127 = refl

pub above_128 : above 128 (replicate 126 126 ++ (100 ∷ 120 ∷ [])) ≡ 2502
unfolding opened
above_128 = refl
