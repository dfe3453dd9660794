-- The version as one number, to compare: that of NDUSHAVIRE_VERSION_NUMBER in the C header.
use Rattle.std.specs.Prelude.{ℕ, ◌+◌, ◌*◌}

abbrev pub number_of : ℕ → ℕ → ℕ → ℕ
number_of major minor patch = major * 10000 + minor * 100 + patch

-- this is version 0.17.0
abbrev pub version : ℕ
version = number_of 0 17 0
