-- The greetings before a manager is called.
use Rattle.std.specs.Prelude.{◌≡◌, ◌⊎◌, ℕ, Bool, true, false, ◌&&◌, List, map, codes, Option, Some, None, Result, Ok, Err, if◌then◌else◌}
use Rattle.two_wire.specs.declared.Bus.{Bus}
use Rattle.two_wire.specs.declared.Bus.TheVariants.{Ipmb, Smbus}
use Rattle.wire_links.specs.declared.link.Link.{Ghosts}
use Rattle.wire_links.specs.declared.udp_link.UdpLink.{UdpLink}
use Rattle.wire_links.specs.contracts.udp_link.UdpLinkLink.TheImpl as udp
use Rattle.wire_links.specs.Counted.{none_counted}
use Rattle.undo_plans.specs.declared.plan.Plan.{Plan}
use Rattle.undo_plans.specs.declared.undo_list.UndoList.{UndoList}
use Rattle.model_lab.specs.Meaning.{lab_names}
use Rattle.bmc_core.specs.Wires.{bus_of}
use Rattle.undo_plans.specs.declared.greeting.Greeting.{Greeting}
use Rattle.undo_plans.specs.declared.greeting.GreetingStage.TheVariants.{AtStart}
use Rattle.bmc_ports.specs.declared.greeter.GreetEnd.{GreetEnd}
use Rattle.bmc_ports.specs.declared.greeter.GreetEnd.TheVariants as ends
use Rattle.bmc_ports.specs.Conversation.{BothLinks}
use Rattle.bmc_ports.specs.Greeted as driven
use Rattle.app_run.specs.declared.greeting.GreetFault.{GreetFault}
use Rattle.app_run.specs.declared.greeting.GreetFault.TheVariants as fault
use Rattle.app_run.specs.declared.greeting.Greetings.{Greetings}
use Rattle.app_run.specs.declared.greeting.Unanswered.{Unanswered}
use Rattle.app_run.specs.Buses.{bus_of_step, is_used}
use Rattle.app_run.specs.Driven.{undo_retries}

-- ---- which buses are greeted

-- where greetings are asked for, a bus is greeted that is among these, for the number with which requests go on there
abbrev pub number_on : (greet : Bool) → Bus → List Bus → (next : ℕ) → Option ℕ
number_on greet bus used next = if greet && is_used bus used then Some next else None

-- before a run: the buses of its steps, on which a new manager's requests begin with number 0
abbrev pub greetings_before_run : (greet : Bool) → Plan → Greetings
greetings_before_run greet plan = record {
  ipmb = number_on greet Ipmb (map bus_of_step plan.steps) 0;
  smbus = number_on greet Smbus (map bus_of_step plan.steps) 0;
  retries = plan.retries;
}

-- before an undo: the buses of its requests, on which they go on with the list's next numbers
abbrev pub greetings_before_undo : (greet : Bool) → UndoList → Greetings
greetings_before_undo greet list = record {
  ipmb = number_on greet Ipmb (map bus_of list.requests.members) list.next.ipmb;
  smbus = number_on greet Smbus (map bus_of list.requests.members) list.next.smbus;
  retries = undo_retries;
}

-- ---- what comes of them

-- a greeting that nothing was sent of
abbrev pub new_greeting : Bus → (next retries : ℕ) → Greeting
new_greeting bus next retries = record { names = lab_names; bus = bus; next = next; retries = retries; stage = AtStart; resent = 0 }

-- it ended so, and wasn't answered
abbrev pub unanswered_by : Bus → GreetEnd → Option Unanswered
unanswered_by bus ends.Answered = None
unanswered_by bus ends.Busy = Some (record { bus = bus; busy = true })
unanswered_by bus ends.Silent = Some (record { bus = bus; busy = false })

-- A bus was greeted over its link, for at most so many turns. Or it isn't to be greeted, and nothing was sent.
abbrev pub GreetsBus : {L : Type 0} → (of : Ghosts L) → Bus → (next : Option ℕ) → (retries turns : ℕ) → (link : L) → Option Unanswered → (left : L) → Type 0
GreetsBus of bus None retries turns link unanswered left = (unanswered ≡ None) × (left ≡ link)
GreetsBus of bus (Some next) retries turns link unanswered left =
    (after : Greeting) × (end : GreetEnd) × driven.GreetsOver of turns (new_greeting bus next retries) link after end left × (unanswered ≡ unanswered_by bus end)

-- IPMB was greeted, and then SMBus, unless the greeting of IPMB wasn't answered.
abbrev pub GreetsBoth : {A B : Type 0} → (one : Ghosts A) → (two : Ghosts B) → Greetings → (turns : ℕ) → (over : BothLinks A B) → Option Unanswered → (left : BothLinks A B) → Type 0
GreetsBoth one two greetings turns over unanswered left =
    ((why : Unanswered) × (unanswered ≡ Some why) × GreetsBus one Ipmb greetings.ipmb greetings.retries turns over.ipmb (Some why) left.ipmb × (left.smbus ≡ over.smbus))
    ⊎ (GreetsBus one Ipmb greetings.ipmb greetings.retries turns over.ipmb None left.ipmb
    × GreetsBus two Smbus greetings.smbus greetings.retries turns over.smbus unanswered left.smbus)

-- over links of their own, which had counted nothing
pub record GreetsOver (greetings : Greetings) (turns : ℕ) (unanswered : Option Unanswered) : Type 0 where
  pub over : BothLinks UdpLink UdpLink
  pub left : BothLinks UdpLink UdpLink
  pub ipmb : over.ipmb.counts ≡ none_counted
  pub smbus : over.smbus.counts ≡ none_counted
  pub greets : GreetsBoth udp.ghosts udp.ghosts greetings turns over unanswered left

-- so they came to this; where no bus is to be greeted, nothing was sent
abbrev pub AreGreeted : Greetings → (turns : ℕ) → Option Unanswered → Type 0
AreGreeted greetings turns unanswered =
    ((greetings.ipmb ≡ None) × (greetings.smbus ≡ None) × (unanswered ≡ None)) ⊎ GreetsOver greetings turns unanswered

-- each was answered, or one wasn't, or no link could be had
abbrev pub GreetedFirst : Greetings → (turns : ℕ) → Result (Unit {0}) GreetFault → Type 0
GreetedFirst greetings turns (Ok done) = AreGreeted greetings turns None
GreetedFirst greetings turns (Err (fault.Unanswered why)) = AreGreeted greetings turns (Some why)
GreetedFirst greetings turns (Err fault.NoLink) = Unit {0}

-- what came in place of an answer
abbrev pub answer_word : (busy : Bool) → List ℕ
answer_word true = codes "busy"
answer_word false = codes "no answer"
