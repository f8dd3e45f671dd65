-- Each part of the master follows the list of words known by one more word. What a part asks of that word, as
-- few rows or clients that are there, follows because the word is in place for this group.
use Rattle.std.proofs.Common.{◌≡◌, ◌<◌, ◌≤◌, true, [], ◌∷◌, ◌++◌, sym, ◌∙◌, ap, subst}
use Rattle.std.proofs.lemmas.Result.{on_ok_weaker}
use Rattle.protocol_rules.specs.Group.{Group}
use Rattle.protocol_rules.specs.Facts.{facts_of}
use Rattle.master_knowledge.specs.Whole.{is_whole}
use Rattle.master_knowledge.proofs.Whole.{whole_of, trip_within, vote_within}
use Rattle.master_knowledge.proofs.Certified.{has_clients}
use Rattle.master_knowledge.proofs.Known.{order_learns, run_learns, far_learns, whole_more}
use Rattle.master_knowledge.proofs.Events.{wait_stays}
use Rattle.quorum_sets.proofs.Numbered.{masters_few}
use Rattle.master_knowledge.proofs.knowledge.Knowledge.learn.Goals as goal

pub take_certificate_part-requires : goal.take_certificate_part-requires
take_certificate_part-requires c =
    let k = c.requires.known.knows in
    let now = c.in_ok-take_request_part.ensures.ok c.requires.known.group c.requires.known.own c.requires.known.taken
    c.requires.known.known c.requires.known.said k.preorder in
    let whole : is_whole c.requires.known.group c.args.part.now ≡ true =
    ap (λ (h : Group). is_whole h c.args.part.now) (sym k.preorder.group) ∙ c.requires.whole in
    record {
      clients = λ j n u e. subst (λ (h : Group). u.client < h.clients) (sym k.run.run.group)
          (has_clients c.requires.known.group (c.requires.known.known ++ c.args.part.now ∷ [])
          (whole_more c.requires.known.group c.requires.known.known c.args.part.now k.whole whole) j n u
          (sym (now.certified j n) ∙ e));
    }

pub take_summary_part-requires : goal.take_summary_part-requires
take_summary_part-requires c =
    let k = c.requires.known.knows in
    let whole : is_whole c.requires.known.group c.args.part.now ≡ true =
    ap (λ (h : Group). is_whole h c.args.part.now) (sym k.preorder.group) ∙ c.requires.whole in
    let few = masters_few c.args.self.now.sizes in
    whole_of c.requires.known.group c.args.self.now.matrix.group.n c.args.part.now (sym k.matrix.masters)
    (subst (λ n. n ≤ 14) (k.masters ∙ sym k.matrix.masters) few) whole

pub take_order_part-requires : goal.take_order_part-requires
take_order_part-requires c =
    let k = c.requires.known.knows in
    let whole : is_whole c.requires.known.group c.args.part.now ≡ true =
    ap (λ (h : Group). is_whole h c.args.part.now) (sym k.preorder.group) ∙ c.requires.whole in
    whole_of c.requires.known.group c.args.self.now.sizes.n c.args.part.now (sym k.masters)
    (masters_few c.args.self.now.sizes) whole

pub take_view_part-requires : goal.take_view_part-requires
take_view_part-requires c =
    let k = c.requires.known.knows in
    let whole : is_whole c.requires.known.group c.args.part.now ≡ true =
    ap (λ (h : Group). is_whole h c.args.part.now) (sym k.preorder.group) ∙ c.requires.whole in
    whole_of c.requires.known.group c.args.self.now.views.group.n c.args.part.now (sym k.views.masters)
    (subst (λ n. n ≤ 14) (k.masters ∙ sym k.views.masters) (masters_few c.args.self.now.sizes)) whole

pub take_measure_part-requires : goal.take_measure_part-requires
take_measure_part-requires c =
    let k = c.requires.known.knows in
    trip_within c.requires.known.group c.args.part.now
    (ap (λ (h : Group). is_whole h c.args.part.now) (sym k.preorder.group) ∙ c.requires.whole)

pub take-requires : goal.take-requires
take-requires c =
    let k = c.requires.known.knows in
    vote_within c.requires.known.group c.args.part.now
    (ap (λ (h : Group). is_whole h c.args.part.now) (sym k.preorder.group) ∙ c.requires.whole)

pub returns : goal.returns
returns c = on_ok_weaker c.take_gift_part.result (λ gifts g me taken known past said k.
    let now = c.in_ok-take_request_part.ensures.ok g me taken known said k.preorder in
    let whole : is_whole g c.args.part.now ≡ true =
    ap (λ (h : Group). is_whole h c.args.part.now) (sym k.preorder.group) ∙ c.requires.whole in record {
      masters = k.masters;
      quorum = k.quorum;
      rules = k.rules;
      whole = whole_more g known c.args.part.now k.whole whole;
      preorder = now;
      matrix = c.in_ok-take_summary_part.ensures.ok g known k.matrix;
      order = order_learns g c.take_order_part.new.order known said c.args.part.now
          (c.in_ok-take_order_part.ensures g k.masters g (facts_of g known) said k.order);
      run = run_learns g c.args.self.now.run c.take_certificate_part.new.run known c.args.part.now
          (λ runs is. c.in_ok-take_certificate_part.ensures.ok g known runs now.certified is) k.run;
      views = c.in_ok-take_view_part.ensures.ok g me known said k.views;
      ticks_told = c.in_ok-take_measure_part.ensures.ticks ∙ k.ticks_told;
      ticks = c.in_ok-take_measure_part.ensures.ticks ∙ k.ticks;
      measure = λ first. c.in_ok-take_measure_part.ensures.ok g k.rules first g me past.told known said (k.measure first);
      patience = λ live. c.take.ensures c.args.part.now.sig g known said (k.patience live);
      wait = λ live. wait_stays g c.args.self.now.wait known (c.args.part.now ∷ []) past.moments (k.wait live);
      furthest = far_learns g c.take_furthest_part.new.furthest known c.args.part.now
          (c.take_furthest_part.ensures g (facts_of g known) k.furthest);
      earlier = k.earlier;
      asks = c.in_ok-take.ensures.ok c.args.part.now.sig g me known said k.asks;
      gifts = gifts g known k.gifts;
    }) c.take_gift_part.ensures
