-- The value of one key: its type, its range, its default. A key of the document has its own name, one of a row
-- the row's before it, as `point[2].area`; `at` is what stands before. (The keys are this project's own, the
-- syntax is TOML's.)
use Rattle.std.specs.Prelude.{ℕ, ◌++◌, ◌&&◌, List, Option, Some, None, Result, Ok, Err, ℤ, pos, negsuc, int_le}
use Rattle.std.specs.Prelude.{unwrap_or}
use Rattle.toml.specs.Data.{Data, integer, as_integer, as_str, Members, get_member}
use Rattle.hex.specs.Hex.{decode_sized}
use Rattle.hex.specs.declared.error.FromHexError.{FromHexError}
use Rattle.scenario_file.specs.declared.refusal.ScenarioRefusal.{ScenarioRefusal}
use Rattle.scenario_file.specs.declared.refusal.ScenarioRefusal.TheVariants as refusal
use Rattle.scenario_file.specs.Answers.{Answer, ◌>>=◌, bad, kept, or_bad}

abbrev pub or_missing : {A : Type 0} → List ℕ → Option A → Result A ScenarioRefusal
or_missing name None = Err (refusal.MissingKey name)
or_missing name (Some d) = Ok d

-- what a key without a default holds
unfoldable pub needed : List ℕ → List ℕ → Members → Answer Data
needed at key t = or_missing (at ++ key) (get_member key t)

-- what a key holds, or its default
abbrev pub or_default : List ℕ → Data → Members → Data
or_default key d t = unwrap_or (get_member key t) d

-- the least and the greatest number of 64 bits
abbrev pub least : ℤ
least = negsuc 9223372036854775807

abbrev pub most : ℤ
most = pos 9223372036854775807

-- a whole number from one number to another
unfoldable pub integer_in : List ℕ → ℤ → ℤ → Data → Answer ℤ
integer_in name low high d = or_bad name (as_integer d) >>= (λ z. kept name (int_le low z && int_le z high) z)

-- the greatest number of 32 bits
abbrev pub greatest_count : ℕ
greatest_count = 4294967295

abbrev pub magnitude : ℤ → ℕ
magnitude (pos n) = n
magnitude (negsuc n) = 0

-- the same without a sign
unfoldable pub count_in : List ℕ → ℕ → ℕ → Data → Answer ℕ
count_in name low high d = integer_in name (pos low) (pos high) d >>= (λ z. Ok (magnitude z))

unfoldable pub integer_at : List ℕ → List ℕ → ℤ → ℤ → Members → Answer ℤ
integer_at at key low high t = needed at key t >>= integer_in (at ++ key) low high

unfoldable pub integer_or : List ℕ → List ℕ → ℤ → ℤ → ℤ → Members → Answer ℤ
integer_or at key default low high t = integer_in (at ++ key) low high (or_default key (integer default) t)

unfoldable pub count_at : List ℕ → List ℕ → ℕ → ℕ → Members → Answer ℕ
count_at at key low high t = needed at key t >>= count_in (at ++ key) low high

unfoldable pub count_or : List ℕ → List ℕ → ℕ → ℕ → ℕ → Members → Answer ℕ
count_or at key default low high t = count_in (at ++ key) low high (or_default key (integer (pos default)) t)

unfoldable pub text_at : List ℕ → List ℕ → Members → Answer (List ℕ)
text_at at key t = needed at key t >>= (λ d. or_bad (at ++ key) (as_str d))

abbrev pub decoded : List ℕ → Result (List ℕ) FromHexError → Answer (List ℕ)
decoded name (Ok bytes) = Ok bytes
decoded name (Err e) = bad name

-- so many bytes as hex digits, two for each byte, in either case
unfoldable pub bytes_at : List ℕ → List ℕ → ℕ → Members → Answer (List ℕ)
bytes_at at key size t = text_at at key t >>= (λ s. decoded (at ++ key) (decode_sized s size))
