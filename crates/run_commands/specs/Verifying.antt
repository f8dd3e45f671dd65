-- Whether a signature of a message is verified, as a text. (What verifies is RFC 8554, section 6.3; the words are this
-- project's own.)
use Rattle.std.specs.Prelude.{◌≡◌, ℕ, List, Option, None, Some, Result, Ok, Err, codes, string_bytes}
use Rattle.std.specs.declared.string.String.{String}
use Rattle.std.specs.declared.alloc.Global.{Global}
use Rattle.hex.specs.Hex.{decode_sized}
use Rattle.hex.specs.declared.error.FromHexError.{FromHexError}
use Rattle.hash_signatures.specs.Verification.{Verifies}
use Rattle.run_commands.specs.declared.verdicts.VerifyAnswer.{VerifyAnswer}
use Rattle.run_commands.specs.declared.verdicts.VerifyAnswer.TheVariants as answer

abbrev pub decoded : Result (List ℕ) FromHexError → Option (List ℕ)
decoded (Ok bytes) = Some bytes
decoded (Err e) = None

-- the 60 bytes of a public key that 120 hex digits write, and none of any other text
unfoldable pub public_in : List ℕ → Option (List ℕ)
public_in text = decoded (decode_sized text 60)

abbrev pub verified_text : List ℕ
verified_text = codes "verified\n"

-- The text is there only where the public key verifies the signature, and it is refused only where it doesn't.
abbrev pub TellsVerified : List ℕ → List ℕ → List ℕ → Result (String Global) VerifyAnswer → Type 0
TellsVerified public message sig (Ok text) = Verifies public message sig × (string_bytes text ≡ verified_text)
TellsVerified public message sig (Err answer.NotVerified) = Verifies public message sig → ⊥
TellsVerified public message sig (Err answer.Want) = Unit {0}
