-- Where seed and identifier stand in the line of an own key, and that a text that reads otherwise is no such line.
use Rattle.std.proofs.Common.{◌≡◌, ◌∙◌, ◌+◌, ℕ, List, ◌++◌, length, take, drop, sym, ap, ap₂, arith, append_assoc, codes, Result, Ok, Err}
use Rattle.std.proofs.lemmas.List.{length-append}
use Rattle.hex.specs.Hex.{IsBytes, encode_lower, decode_sized}
use Rattle.hex.specs.declared.error.FromHexError.{FromHexError}
use Rattle.hex.proofs.HexLemmas.{decode_sized-encode_lower}
use Rattle.command_files.specs.Keys.{AnswersLine, AnswersOwnKey, IsNoOwnKey, own_line}
use Rattle.command_files.specs.declared.fault.KeyFault.{KeyFault}
use Rattle.command_files.specs.declared.fault.KeyFault.TheVariants as fault
use Rattle.command_files.specs.declared.own_key.OwnKey.{OwnKey}
use Rattle.command_files.proofs.Rings.{behind_name, digits_behind, twice_as_long}

seed_digits : (name seed identifier text : List ℕ) → length seed ≡ 32 → text ≡ own_line name seed identifier
    → take 64 (drop (length name + 1) text) ≡ encode_lower seed
unfolding own_line
seed_digits name seed identifier text many same =
    let front = name ++ codes " " in
    let first = encode_lower seed in
    let last = encode_lower identifier ++ codes "\n" in
    digits_behind front first (codes " " ++ last) text (length name + 1) 64 (behind_name name)
    (twice_as_long seed 64 (omega (arith, many)))
    (same ∙ append_assoc ((front ++ first) ++ codes " ") (encode_lower identifier) (codes "\n")
    ∙ append_assoc (front ++ first) (codes " ") last ∙ append_assoc front first (codes " " ++ last))

identifier_digits : (name seed identifier text : List ℕ) → length seed ≡ 32 → length identifier ≡ 16
    → text ≡ own_line name seed identifier → take 32 (drop (length name + 66) text) ≡ encode_lower identifier
unfolding own_line
identifier_digits name seed identifier text many few same =
    let first = (name ++ codes " ") ++ encode_lower seed in
    let digits : length (encode_lower seed) ≡ 64 = twice_as_long seed 64 (omega (arith, many)) in
    let far : length (first ++ codes " ") ≡ length name + 66 =
    omega (arith, behind_name first, length-append (name ++ codes " ") (encode_lower seed), behind_name name, digits) in
    digits_behind (first ++ codes " ") (encode_lower identifier) (codes "\n") text (length name + 66) 32 far
    (twice_as_long identifier 32 (omega (arith, few)))
    (same ∙ append_assoc (first ++ codes " ") (encode_lower identifier) (codes "\n"))

reads : (digits bytes : List ℕ) (count : ℕ) → digits ≡ encode_lower bytes → length bytes ≡ count → IsBytes bytes
    → decode_sized digits count ≡ Ok bytes
reads digits bytes count written many are =
    ap (λ (d : List ℕ). decode_sized d count) written ∙ decode_sized-encode_lower bytes count many are

pub no_seed : (name text digits : List ℕ) (e : FromHexError) → digits ≡ take 64 (drop (length name + 1) text)
    → decode_sized digits 32 ≡ Err e → IsNoOwnKey name text
no_seed name text digits e piece fails seed identifier many are few others same =
    let right = reads digits seed 32 (piece ∙ seed_digits name seed identifier text many same) many are in
    let apart : Ok seed ≡ Err e = sym right ∙ fails in
    cc

pub no_identifier : (name text digits : List ℕ) (e : FromHexError) → digits ≡ take 32 (drop (length name + 66) text)
    → decode_sized digits 16 ≡ Err e → IsNoOwnKey name text
no_identifier name text digits e piece fails seed identifier many are few others same =
    let right = reads digits identifier 16 (piece ∙ identifier_digits name seed identifier text many few same) few others in
    let apart : Ok identifier ≡ Err e = sym right ∙ fails in
    cc

ok_same : (a b : List ℕ) → (let x : Result (List ℕ) FromHexError = Ok a in x) ≡ Ok b → a ≡ b
ok_same a b same = cc

-- a text that reads as these, and isn't their line
pub other_line : (name text first second seed identifier : List ℕ) → first ≡ take 64 (drop (length name + 1) text)
    → decode_sized first 32 ≡ Ok seed → second ≡ take 32 (drop (length name + 66) text)
    → decode_sized second 16 ≡ Ok identifier → (own_line name seed identifier ≡ text → ⊥) → IsNoOwnKey name text
other_line name text first second seed identifier piece reads_seed other reads_identifier differs s i many are few others same =
    let right = reads first s 32 (piece ∙ seed_digits name s i text many same) many are in
    let wrong = reads second i 16 (other ∙ identifier_digits name s i text many few same) few others in
    let this : s ≡ seed = ok_same s seed (sym right ∙ reads_seed) in
    let that : i ≡ identifier = ok_same i identifier (sym wrong ∙ reads_identifier) in
    differs (sym (same ∙ ap₂ (own_line name) this that))

-- what comes of a text by the line of what its digits read as
pub by_line : (name text first second seed identifier : List ℕ) (result : Result OwnKey KeyFault)
    → first ≡ take 64 (drop (length name + 1) text) → decode_sized first 32 ≡ Ok seed
    → second ≡ take 32 (drop (length name + 66) text) → decode_sized second 16 ≡ Ok identifier
    → AnswersLine name seed identifier text result → AnswersOwnKey name text result
by_line name text first second seed identifier (Ok key) piece reads_seed other reads_identifier is =
    sym is.2 ∙ ap₂ (own_line name) (sym is.0) (sym is.1)
by_line name text first second seed identifier (Err (fault.BadLine line)) piece reads_seed other reads_identifier is = (
  is.0,
  other_line name text first second seed identifier piece reads_seed other reads_identifier is.1,
)
by_line name text first second seed identifier (Err fault.Want) piece reads_seed other reads_identifier is = tt
