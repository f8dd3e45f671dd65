-- Frames of one text have one header and one PDU, whatever follows them.
use Rattle.std.proofs.Common.{◌≡◌, ◌<◌, ◌≤◌, ◌+◌, ◌^◌, ℕ, Bool, true, false, List, [], ◌∷◌, ◌++◌, length, take, drop}
use Rattle.std.proofs.Common.{sym, ap, ◌∙◌, arith, length-append, append_assoc, refl}
use Rattle.std.proofs.lemmas.List.{take_at, drop_at}
use Rattle.wire_parts.specs.Fields.{u8_bytes, u16_bytes}
use Rattle.wire_parts.specs.FieldLaws.{u16_bytes-inj}
use Rattle.modbus_forms.specs.Frame.{frame_text, header_text}

pub record SameFrame (t u : ℕ) (pdu xs : List ℕ) (t' u' : ℕ) (pdu' ys : List ℕ) : Type 0 where
  pub transaction : t ≡ t'
  pub unit : u ≡ u'
  pub pdu_is : pdu ≡ pdu'
  pub rest : xs ≡ ys

flat : (t u : ℕ) (pdu xs : List ℕ) → frame_text t u pdu ++ xs ≡ u16_bytes t
    ++ (u16_bytes 0 ++ (u16_bytes (1 + length pdu) ++ (u ∷ (pdu ++ xs))))
unfolding frame_text
flat t u pdu xs = simp append_assoc

pub same_frame : (t u : ℕ) (pdu xs : List ℕ) (t' u' : ℕ) (pdu' ys : List ℕ) → t < 2 ^ 16 → t' < 2 ^ 16 →
    length pdu ≤ 253 → length pdu' ≤ 253
    → frame_text t u pdu ++ xs ≡ frame_text t' u' pdu' ++ ys → SameFrame t u pdu xs t' u' pdu' ys
same_frame t u pdu xs t' u' pdu' ys ft ft' few few' same =
    let one = u16_bytes-inj t t' _ _ ft ft' (sym (flat t u pdu xs) ∙ same ∙ flat t' u' pdu' ys) in
    let two = u16_bytes-inj 0 0 _ _ (omega arith) (omega arith) one.1 in
    let three = u16_bytes-inj (1 + length pdu) (1 + length pdu') _ _ (omega arith) (omega arith) two.1 in
    let size : length pdu ≡ length pdu' = omega (arith, three.0) in
    let behind : pdu ++ xs ≡ pdu' ++ ys = ap (drop 1) three.1 in
    record {
      transaction = one.0;
      unit = head_inj u u' (pdu ++ xs) (pdu' ++ ys) three.1;
      pdu_is = sym (take_at pdu xs (length pdu) refl) ∙ ap (take (length pdu)) behind
          ∙ take_at pdu' ys (length pdu) (sym size);
      rest = sym (drop_at pdu xs (length pdu) refl) ∙ ap (drop (length pdu)) behind
          ∙ drop_at pdu' ys (length pdu) (sym size);
    } where
      head_inj : (a b : ℕ) (as' bs : List ℕ) → a ∷ as' ≡ b ∷ bs → a ≡ b
      head_inj a b as' bs e = cc
