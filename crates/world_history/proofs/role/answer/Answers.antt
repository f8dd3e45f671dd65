-- Master, proxy, screen and intruded master each answer by their own rules, as their role is what their own
-- list made it. An intruded one says nothing but overhears what it takes.
use Rattle.std.proofs.Common.{subst}
use Rattle.world_entries.specs.Entries.{event_of}
use Rattle.world_history.specs.declared.role.Role.{Role}
use Rattle.world_history.specs.Roles.{IsRole}
use Rattle.world_history.proofs.MasterEntry.{master_said, master_ready}
use Rattle.world_history.proofs.IntrudedEntry.{intruded_said, intruded_ready}
use Rattle.world_history.proofs.ClientEntry.{proxy_said, screen_said, proxy_ready, screen_ready, proxy_correct}
use Rattle.world_history.proofs.ClientEntry.{screen_correct}
use Rattle.world_history.proofs.Answering.{if_ok, on_ok, both_on_ok}
use Rattle.world_history.proofs.role.answer.Goals as goal

pub returns-in-Master-clause-said : goal.returns-in-Master-clause-said
returns-in-Master-clause-said c = if_ok c.answer_at_master.result c.answer_at_master.ensures.said
    (λ bodies says k actor own e comes same size is.
    master_said k actor own e (event_of c.args.event.now) c.in-Master.node bodies.items comes same
    (subst (λ (r : Role). IsRole k actor own r) c.in-Master.is is) says)

pub returns-in-Master-clause-ready : goal.returns-in-Master-clause-ready
returns-in-Master-clause-ready c = on_ok c.answer_at_master.result c.answer_at_master.ensures.answered
    (λ answered k actor own e comes same size is.
    master_ready k actor own e (event_of c.args.event.now) c.in-Master.node c.answer_at_master.new.node same
    (subst (λ (r : Role). IsRole k actor own r) c.in-Master.is is) answered)

pub returns-in_ok-overhear-in-Intruded-clause-said : goal.returns-in_ok-overhear-in-Intruded-clause-said
returns-in_ok-overhear-in-Intruded-clause-said c k actor own e comes same size is =
    intruded_said k actor own e c.in-Intruded.known c.new.result.items comes
    (subst (λ (r : Role). IsRole k actor own r) c.in-Intruded.is is) c.new.ensures.items

pub returns-in_ok-overhear-in-Intruded-clause-ready : goal.returns-in_ok-overhear-in-Intruded-clause-ready
returns-in_ok-overhear-in-Intruded-clause-ready c k actor own e comes same size is =
    intruded_ready k actor own e (event_of c.args.event.now) c.in-Intruded.known c.overhear.new.known same
    (subst (λ (r : Role). IsRole k actor own r) c.in-Intruded.is is)
    c.in_ok-overhear-in-Intruded.ensures

pub returns-in-Proxy-clause-said : goal.returns-in-Proxy-clause-said
returns-in-Proxy-clause-said c = if_ok c.answer_at_proxy.result c.answer_at_proxy.ensures.said
    (λ bodies says k actor own e comes same size is.
    let proxy = subst (λ (r : Role). IsRole k actor own r) c.in-Proxy.is is in
    proxy_said k actor own e (event_of c.args.event.now) c.in-Proxy.proxy c.args.many bodies.items comes same
    (size (proxy_correct k actor own c.in-Proxy.proxy proxy)) proxy says)

pub returns-in-Proxy-clause-ready : goal.returns-in-Proxy-clause-ready
returns-in-Proxy-clause-ready c =
    both_on_ok c.answer_at_proxy.result c.answer_at_proxy.ensures.said c.answer_at_proxy.ensures.after
    (λ bodies says after k actor own e comes same size is.
    let proxy = subst (λ (r : Role). IsRole k actor own r) c.in-Proxy.is is in
    let said = proxy_said k actor own e (event_of c.args.event.now) c.in-Proxy.proxy c.args.many bodies.items comes
    same (size (proxy_correct k actor own c.in-Proxy.proxy proxy)) proxy says in
    proxy_ready k actor own e (event_of c.args.event.now) c.in-Proxy.proxy c.answer_at_proxy.new.proxy
    bodies.items same said proxy after)

pub returns-in-Screen-clause-said : goal.returns-in-Screen-clause-said
returns-in-Screen-clause-said c = if_ok c.answer_at_screen.result c.answer_at_screen.ensures.said
    (λ bodies says k actor own e comes same size is.
    let screen = subst (λ (r : Role). IsRole k actor own r) c.in-Screen.is is in
    screen_said k actor own e (event_of c.args.event.now) c.in-Screen.screen c.args.many bodies.items comes same
    (size (screen_correct k actor own c.in-Screen.screen screen)) screen says)

pub returns-in-Screen-clause-ready : goal.returns-in-Screen-clause-ready
returns-in-Screen-clause-ready c =
    both_on_ok c.answer_at_screen.result c.answer_at_screen.ensures.said c.answer_at_screen.ensures.after
    (λ bodies says after k actor own e comes same size is.
    let screen = subst (λ (r : Role). IsRole k actor own r) c.in-Screen.is is in
    let said = screen_said k actor own e (event_of c.args.event.now) c.in-Screen.screen c.args.many bodies.items comes
    same (size (screen_correct k actor own c.in-Screen.screen screen)) screen says in
    screen_ready k actor own e (event_of c.args.event.now) c.in-Screen.screen c.answer_at_screen.new.screen
    bodies.items same said screen after)
