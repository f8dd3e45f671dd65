-- With a leaf left one body is signed with the next one, which gives one frame. It has a spelling, as the body
-- fits, and the seat has used one leaf more.
use Rattle.std.proofs.Common.{[], ◌∷◌, refl, ◌∙◌, ap, arith}
use Rattle.message_types.specs.Texts.{frame_text}
use Rattle.message_types.specs.Spelling.{has_spelling}
use Rattle.world_history.specs.Seats.{state_of}
use Rattle.world_history.specs.State.{word_frame}
use Rattle.world_history.proofs.SpokenWords.{one_fits, leaf_there, few_words, frame_is, one_frame, first_frame}
use Rattle.world_history.proofs.SpokenWords.{frame_spelled, seated_with_word}
use Rattle.world_history.proofs.seat.Seat.sign_word.Goals as goal

pub sign_all-requires-clause-fit : goal.sign_all-requires-clause-fit
sign_all-requires-clause-fit c = one_fits (c.args.body ∷ []) c.args.body refl c.requires.fits

pub sign_all-requires-clause-left : goal.sign_all-requires-clause-left
sign_all-requires-clause-left c =
    leaf_there c.args.self.now (c.args.body ∷ []) c.args.body c.requires.seated c.requires.left refl

pub index-requires : goal.index-requires
index-requires c =
    let one = one_frame c.in_ok-frames.frames.items (word_frame (state_of c.args.self.now) c.args.body)
    (c.in_ok-frames.ensures.frames ∙ frame_is c.args.self.now (c.args.body ∷ []) c.args.body c.requires.seated refl) in
    omega (arith, c.in_ok-frames.frames.ok.0)

pub write_frame-requires : goal.write_frame-requires
write_frame-requires c =
    let frame = word_frame (state_of c.args.self.now) c.args.body in
    ap has_spelling (first_frame c.in_ok-frames.frames.items frame c.index.result.now
    (c.in_ok-frames.ensures.frames ∙ frame_is c.args.self.now (c.args.body ∷ []) c.args.body c.requires.seated refl)
    c.index.ensures)
    ∙ frame_spelled c.args.self.now c.args.body c.requires.seated c.requires.fits

pub overflow_add-self : goal.overflow_add-self
overflow_add-self c = let few = few_words c.args.self.now c.requires.seated c.requires.left in omega arith

pub returns-clause-text : goal.returns-clause-text
returns-clause-text c =
    let frame = word_frame (state_of c.args.self.now) c.args.body in
    c.in_ok-text.ensures
    ∙ ap frame_text (first_frame c.in_ok-frames.frames.items frame c.index.result.now
    (c.in_ok-frames.ensures.frames ∙ frame_is c.args.self.now (c.args.body ∷ []) c.args.body c.requires.seated refl)
    c.index.ensures)

pub returns-clause-seated : goal.returns-clause-seated
returns-clause-seated c =
    seated_with_word c.args.self.now c.sign_all.new.key (c.args.body ∷ []) c.args.body c.requires.seated
    c.requires.master c.requires.intruded refl
    c.in_ok-frames.ensures.used
