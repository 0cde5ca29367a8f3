-- What others send: the manager ignores what comes from another address than the controller's, and the port hears requests.
use Rattle.std.proofs.Common.{◌≡◌, ℕ, ◌+◌, ◌*◌, ◌/◌, ◌%◌, ◌&&◌, eqb, List, [], ◌∷◌, length, Option, Some, None, refl, sym, ◌∙◌, ap, arith}
use Rattle.std.specs.Prelude.{IfSome, MatchOption}
use Rattle.std.proofs.lemmas.Bool.{and_parts, and_from, cond_both, cond-true, eqb-true, eq-eqb}
use Rattle.std.proofs.lemmas.Option.{none-some, same_Some}
use Rattle.model_bus.specs.Request.{Request}
use Rattle.model_bus.specs.Numbering.{Rules}
use Rattle.model_bus.specs.BusState.{BusState, Reply, OtherAsks, is_open, taken_content, taken_from, takes_if, happens}
use Rattle.model_bus.specs.Bytes.{PldmHeader, pldm_request, request_in, SpellsRequest, ReadsRequests}
use Rattle.model_bus.specs.Packet.{Packet}
use Rattle.model_bus.specs.Assembly.{Name, is_name, Step, Waits, Whole, Drops, takes, message_of}
use Rattle.model_bus.specs.PacketBus.{PacketBus, rules_of, reply_name, BusEnds, manager_takes, other_returns, other_request, hears_other}
use Rattle.model_bus.specs.PacketEffect.{OthersAsk}

none_from : (b : Rules) (source number : ℕ) (reply : List ℕ) (s : BusState) → (source ≡ b.controller → ⊥) → taken_from b source number reply s ≡ None
none_from b source number reply s other =
    cond_both (eqb source b.controller) (taken_content b (Reply number (Some reply)) s) None (λ o. o ≡ None) (λ t. absurd (other (eqb-true source b.controller t))) (λ _. refl)

pub ignored : (b : Rules) (source number : ℕ) (reply : List ℕ) (s : BusState) → (source ≡ b.controller → ⊥) → takes_if (taken_from b source number reply s) s ≡ s
ignored b source number reply s other = ap (λ (o : Option (List ℕ)). takes_if o s) (none_from b source number reply s other)

pub packet_ignored : (b : PacketBus) (x : BusEnds) (name : Name) (packet : Packet) (number : ℕ) → (name.source ≡ b.controller → ⊥) → other_returns b name packet number x ≡ x
packet_ignored b x name packet number other =
    cond_both (is_open x.bus && is_name name (reply_name b (length x.bus.taken))) (manager_takes b number (length x.bus.taken) 0 (Some packet) x) x (λ y. y ≡ x)
    (λ t. absurd (other (eqb-true _ _ (and_parts _ _ (and_parts _ _ (and_parts _ _ t).1).0).0))) (λ _. refl)

-- ---- what comes to the port from others

-- a request that is read in a message is its source's
of_source : (source : ℕ) (bytes : List ℕ) → IfSome (request_in source bytes) (λ r. r.requester ≡ source)
of_source source [] = tt
of_source source (kind ∷ []) = tt
of_source source (kind ∷ flags ∷ []) = tt
of_source source (kind ∷ flags ∷ pldm_type ∷ []) = tt
of_source source (kind ∷ flags ∷ pldm_type ∷ command ∷ body) =
    cond_both (eqb kind 1 && (eqb (pldm_type / 64) 0 && eqb (flags / 64) 2))
    (Some (record { requester = source; number = flags % 32; bytes = pldm_request (record { pldm_type = pldm_type; command = command }) (flags % 32) body })) None
    (λ o. IfSome o (λ r. r.requester ≡ source)) (λ _. refl) (λ _. tt)

pub asked_by : (name : Name) (st : Step) → IfSome (other_request name st) (λ r. r.requester ≡ name.source)
asked_by name Waits = tt
asked_by name Drops = tt
asked_by name (Whole ss) = cond_both name.owner (request_in name.source (message_of ss)) None (λ o. IfSome o (λ r. r.requester ≡ name.source)) (λ _. of_source name.source (message_of ss)) (λ _. tt)

if_some : (o : Option Request) (P Q : Request → Type 0) → ((r : Request) → P r → Q r) → IfSome o P → IfSome o Q
if_some None P Q to h = h
if_some (Some r) P Q to h = to r h

-- so it isn't the manager's
pub not_of : (manager : ℕ) (name : Name) (st : Step) → (name.source ≡ manager → ⊥) → IfSome (other_request name st) (λ r. r.requester ≡ manager → ⊥)
not_of manager name st other = if_some (other_request name st) (λ r. r.requester ≡ name.source) (λ r. r.requester ≡ manager → ⊥) (λ r from is. other (sym from ∙ is)) (asked_by name st)

by_request : (b : Rules) (answer : List ℕ) (source : ℕ) (s : BusState) (o : Option Request) → IfSome o (λ r. r.requester ≡ source)
    → MatchOption o (hears_other b answer o s ≡ s) (λ r. (r.requester ≡ source) × (hears_other b answer o s ≡ happens b s (OtherAsks r answer)))
by_request b answer source s None h = refl
by_request b answer source s (Some r) h = (h, refl)

pub others_ask : OthersAsk
others_ask b x name packet answer =
    let asked = other_request name (takes (x.port name) (record { request = 0; idles = 0; packet = packet })).0 in
    by_request (rules_of b) answer name.source x.bus asked (asked_by name (takes (x.port name) (record { request = 0; idles = 0; packet = packet })).0)

-- ---- which messages are requests

read_back : (source : ℕ) (r : Request) (bytes : List ℕ) → SpellsRequest source r bytes → request_in source bytes ≡ Some r
read_back source r bytes h =
    let of_instance = h.instance in let of_bit = h.bit in let of_type = h.of_type in
    let flags = 128 + 32 * h.ignored + h.number in
    let body = pldm_request h.header h.number h.body in
    let version : h.header.pldm_type / 64 ≡ 0 = omega arith in
    let asks : flags / 64 ≡ 2 = omega arith in
    let number : flags % 32 ≡ h.number = omega arith in
    ap (request_in source) h.spelled
    ∙ cond-true _ _ _ (and_from (eqb 1 1) _ refl (and_from _ _ (eq-eqb (h.header.pldm_type / 64) 0 version) (eq-eqb (flags / 64) 2 asks)))
    ∙ ap (λ (n : ℕ). Some (record { requester = source; number = n; bytes = pldm_request h.header n h.body })) number
    ∙ ap (λ (r : Request). Some r) (sym h.read)

spells : (source : ℕ) (r : Request) (bytes : List ℕ) → request_in source bytes ≡ Some r → SpellsRequest source r bytes
spells source r [] e = absurd (none-some r e)
spells source r (kind ∷ []) e = absurd (none-some r e)
spells source r (kind ∷ flags ∷ []) e = absurd (none-some r e)
spells source r (kind ∷ flags ∷ pldm_type ∷ []) e = absurd (none-some r e)
spells source r (kind ∷ flags ∷ pldm_type ∷ command ∷ body) e =
    let header : PldmHeader = record { pldm_type = pldm_type; command = command } in
    let asked : Request = record { requester = source; number = flags % 32; bytes = pldm_request header (flags % 32) body } in
    cond_both (eqb kind 1 && (eqb (pldm_type / 64) 0 && eqb (flags / 64) 2)) (Some asked) None (λ o. o ≡ Some r → SpellsRequest source r (kind ∷ flags ∷ pldm_type ∷ command ∷ body))
    (λ t same.
    let parts = and_parts (eqb kind 1) (eqb (pldm_type / 64) 0 && eqb (flags / 64) 2) t in
    let bits = and_parts (eqb (pldm_type / 64) 0) (eqb (flags / 64) 2) parts.1 in
    let version : pldm_type / 64 ≡ 0 = eqb-true (pldm_type / 64) 0 bits.0 in
    let asks : flags / 64 ≡ 2 = eqb-true (flags / 64) 2 bits.1 in
    let spelled_flags : flags ≡ 128 + 32 * ((flags / 32) % 2) + flags % 32 = omega arith in
    record {
      header = header;
      number = flags % 32;
      ignored = (flags / 32) % 2;
      body = body;
      instance = omega arith;
      bit = omega arith;
      of_type = omega arith;
      spelled = ap (λ (k : ℕ). k ∷ flags ∷ pldm_type ∷ command ∷ body) (eqb-true kind 1 parts.0) ∙ ap (λ (f : ℕ). 1 ∷ f ∷ pldm_type ∷ command ∷ body) spelled_flags;
      read = sym (same_Some _ _ same);
    })
    (λ f same. absurd (none-some r same)) e

pub reads_requests : ReadsRequests
reads_requests source r bytes = (spells source r bytes, read_back source r bytes)
