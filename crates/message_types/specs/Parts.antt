-- The parts of a frame: the frame itself, then the frames inside it in the order of the text, each before those
-- inside it. And the rows that a body holds.
use Rattle.std.specs.Prelude.{List, [], ◌∷◌, ◌++◌, map}
use Rattle.std.specs.List.{flat_map}
use Rattle.message_types.specs.declared.signed.Signed.{Signed}
use Rattle.message_types.specs.declared.preordering.PoRequest.{PoRequest}
use Rattle.message_types.specs.declared.views.Report.{Report}
use Rattle.message_types.specs.declared.body.Body.{Body}
use Rattle.message_types.specs.declared.body.Body.TheVariants as body

-- a frame of one kind as a frame of any
abbrev pub as_frame : {B : Type 0} → (B → Body) → Signed B → Signed Body
as_frame kind f = record { signer = f.signer; body = kind f.body; sig = f.sig }

abbrev pub frames_of : {B : Type 0} → (B → Body) → List (Signed B) → List (Signed Body)
frames_of kind fs = map (λ f. as_frame kind f) fs

abbrev pub request_parts : Signed PoRequest → List (Signed Body)
request_parts f = as_frame body.PoRequest f ∷ as_frame body.Update f.body.update ∷ []

abbrev pub inside_report : Report → List (Signed Body)
inside_report b = frames_of body.Mark b.marks ++ flat_map (λ c. frames_of body.Prepare c.prepares) b.certificates

-- the frames inside a body
abbrev pub inside : Body → List (Signed Body)
inside (body.PoRequest b) = as_frame body.Update b.update ∷ []
inside (body.PrePrepare b) = frames_of body.PoSummary b.frames
inside (body.Report b) = inside_report b
inside (body.NewView b) = flat_map (λ f. as_frame body.Report f ∷ inside_report f.body) b.reports
inside (body.Give b) = request_parts b.request ++ frames_of body.PoAck b.acks
inside (body.GiveOrdered b) = frames_of body.Commit b.commits
inside _ = []

-- a frame and the frames inside it
abbrev pub parts : Signed Body → List (Signed Body)
parts f = f ∷ inside f.body
