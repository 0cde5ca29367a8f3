-- A packet of a recent message at an end: a whole message is that one, and the packets that wait are the beginning of one.
use Rattle.std.proofs.Common.{◌≡◌, ℕ, suc, zero, ◌+◌, ◌<◌, ◌≤◌, Bool, true, false, ◌||◌, eqb, ltb, not, List, [], ◌∷◌, ◌++◌, length, Option, Some, cond, refl, sym, ◌∙◌, ap, subst, ◌⊎◌, inl, inr}
use Rattle.std.specs.Prelude.{slice_get, unwrap_or}
use Rattle.std.proofs.lemmas.Bool.{cond_both, and_parts, and_from, eqb-true, eq-eqb, both_ways}
use Rattle.std.proofs.lemmas.Option.{none-some, same_Some}
use Rattle.model_bus.specs.Numbering.{tag_of}
use Rattle.model_bus.specs.Repeat.{In}
use Rattle.model_bus.specs.Packet.{Packet, IsCutting, IsCutFrom}
use Rattle.model_bus.specs.Assembly.{Name, is_name, SentPacket, Step, Waits, Whole, Drops, IsWhole, joined, takes, waiting, first_request, message_of}
use Rattle.model_bus.specs.PacketBus.{set_at}
use Rattle.model_bus.proofs.BusGrows.{Within}
use Rattle.model_bus.proofs.Assemblies.{IsPartial, IsMessageOf, Good, takes_good, in_push, one_tag}

pub in_slice : {X : Type 0} (xs : List X) (i : ℕ) (x : X) → slice_get xs i ≡ Some x → In x xs
in_slice [] i x e = absurd (none-some x e)
in_slice (y ∷ xs) zero x e = inl (same_Some _ _ e)
in_slice (y ∷ xs) (suc i) x e = inr (in_slice xs i x e)

in_joined : (taken : List SentPacket) (s t : SentPacket) → In t (joined taken s).1 → In t taken ⊎ (s ≡ t)
in_joined taken s t =
    let P : Step × List SentPacket → Type 0 = (λ r. In t r.1 → In t taken ⊎ (s ≡ t)) in
    cond_both (ltb 3 (length taken) || not (eqb s.packet.sequence (length taken))) (Drops, []) (cond s.packet.last (Whole (taken ++ s ∷ []), []) (cond (not (eqb (length s.packet.payload) 64)) (Drops, []) (Waits, taken ++ s ∷ []))) P
    (λ _ is. absurd is)
    (λ _. cond_both s.packet.last (Whole (taken ++ s ∷ []), []) (cond (not (eqb (length s.packet.payload) 64)) (Drops, []) (Waits, taken ++ s ∷ [])) P
    (λ _ is. absurd is)
    (λ _. cond_both (not (eqb (length s.packet.payload) 64)) (Drops, []) (Waits, taken ++ s ∷ []) P (λ _ is. absurd is) (λ _ is. in_push taken s t is)))

pub in_rest : (taken : List SentPacket) (s t : SentPacket) → In t (takes taken s).1 → In t taken ⊎ (s ≡ t)
in_rest [] s t = cond_both s.packet.first (joined [] s) (Drops, []) (λ r. In t r.1 → In t [] ⊎ (s ≡ t)) (λ _. in_joined [] s t) (λ _ is. absurd is)
in_rest (u ∷ us) s t =
    cond_both s.packet.first (joined [] s) (joined (u ∷ us) s) (λ r. In t r.1 → In t (u ∷ us) ⊎ (s ≡ t))
    (λ _ is. elim (in_joined [] s t is) [ inl never_one ↦ absurd never_one | inr e ↦ inr e ])
    (λ _. in_joined (u ∷ us) s t)

pub in_waiting : (taken : List SentPacket) (s t : SentPacket) → In t (waiting taken s) → In t taken
in_waiting taken s t = cond_both s.packet.first [] taken (λ ts. In t ts → In t taken) (λ _ is. absurd is) (λ _ is. is)

-- the assemblies of one source and owner, by tag, after one of them changed
abbrev pub named : ℕ → Bool → ℕ → Name
named source owner tag = record { source = source; owner = owner; tag = tag }

pub at_tag : (source : ℕ) (owner : Bool) (P : ℕ → List SentPacket → Type 0) (tag : ℕ) (taken : List SentPacket) (f : Name → List SentPacket) → P tag taken → ((t : ℕ) → P t (f (named source owner t))) → (t : ℕ) → P t (set_at (named source owner tag) taken f (named source owner t))
at_tag source owner P tag taken f here there t =
    cond_both (is_name (named source owner t) (named source owner tag)) taken (f (named source owner t)) (P t)
    (λ e. subst (λ (x : ℕ). P x taken) (sym (eqb-true _ _ (and_parts _ _ e).1)) here) (λ _. there t)

-- the others are those under other tags
owner_self : (owner : Bool) → cond owner owner (not owner) ≡ true
owner_self true = refl
owner_self false = refl

pub at_tag_alone : (source : ℕ) (owner : Bool) (P : ℕ → List SentPacket → Type 0) (tag : ℕ) (taken : List SentPacket) (f : Name → List SentPacket) → P tag taken → ((t : ℕ) → (t ≡ tag → ⊥) → P t (f (named source owner t))) → (t : ℕ) → P t (set_at (named source owner tag) taken f (named source owner t))
at_tag_alone source owner P tag taken f here there t =
    cond_both (is_name (named source owner t) (named source owner tag)) taken (f (named source owner t)) (P t)
    (λ e. subst (λ (x : ℕ). P x taken) (sym (eqb-true _ _ (and_parts _ _ e).1)) here)
    (λ e. there t (λ same. both_ways _ e (and_from _ _ (and_from _ _ (eq-eqb source source refl) (owner_self owner)) (eq-eqb t tag same))))

-- after one of another source changed
pub at_other : (source : ℕ) (owner : Bool) (P : ℕ → List SentPacket → Type 0) (name : Name) (taken : List SentPacket) (f : Name → List SentPacket) → (name.source ≡ source → ⊥) → ((t : ℕ) → P t (f (named source owner t))) → (t : ℕ) → P t (set_at name taken f (named source owner t))
at_other source owner P name taken f other there t =
    cond_both (is_name (named source owner t) name) taken (f (named source owner t)) (P t)
    (λ e. absurd (other (sym (eqb-true _ _ (and_parts _ _ (and_parts _ _ e).0).0)))) (λ _. there t)

-- after one was emptied
pub at_empty : (source : ℕ) (owner : Bool) (P : ℕ → List SentPacket → Type 0) (name : Name) (f : Name → List SentPacket) → ((t : ℕ) → P t []) → ((t : ℕ) → P t (f (named source owner t))) → (t : ℕ) → P t (set_at name [] f (named source owner t))
at_empty source owner P name f empty there t =
    cond_both (is_name (named source owner t) name) [] (f (named source owner t)) (P t) (λ _. empty t) (λ _. there t)

-- a packet that completes a message leaves nothing waiting
joined_whole : (taken : List SentPacket) (s : SentPacket) → IsWhole (joined taken s).0 → (joined taken s).1 ≡ []
joined_whole taken s =
    let P : Step × List SentPacket → Type 0 = (λ r. IsWhole r.0 → r.1 ≡ []) in
    cond_both (ltb 3 (length taken) || not (eqb s.packet.sequence (length taken))) (Drops, []) (cond s.packet.last (Whole (taken ++ s ∷ []), []) (cond (not (eqb (length s.packet.payload) 64)) (Drops, []) (Waits, taken ++ s ∷ []))) P
    (λ _ _. refl)
    (λ _. cond_both s.packet.last (Whole (taken ++ s ∷ []), []) (cond (not (eqb (length s.packet.payload) 64)) (Drops, []) (Waits, taken ++ s ∷ [])) P
    (λ _ _. refl)
    (λ _. cond_both (not (eqb (length s.packet.payload) 64)) (Drops, []) (Waits, taken ++ s ∷ []) P (λ _ _. refl) (λ _ whole. absurd whole)))

pub takes_whole : (taken : List SentPacket) (s : SentPacket) → IsWhole (takes taken s).0 → (takes taken s).1 ≡ []
takes_whole [] s = cond_both s.packet.first (joined [] s) (Drops, []) (λ r. IsWhole r.0 → r.1 ≡ []) (λ _. joined_whole [] s) (λ _ _. refl)
takes_whole (t ∷ ts) s = cond_both s.packet.first (joined [] s) (joined (t ∷ ts) s) (λ r. IsWhole r.0 → r.1 ≡ []) (λ _. joined_whole [] s) (λ _. joined_whole (t ∷ ts) s)

-- what is whole is this message
abbrev pub WholeIs : List ℕ → Step → Type 0
WholeIs bytes Waits = Unit {0}
WholeIs bytes Drops = Unit {0}
WholeIs bytes (Whole ss) = message_of ss ≡ bytes

-- a message that is complete has the number of this request in its first packet
abbrev pub FirstIs : ℕ → Step → Type 0
FirstIs n Waits = Unit {0}
FirstIs n Drops = Unit {0}
FirstIs n (Whole ss) = first_request n ss ≡ n

first_pushed : (taken : List SentPacket) (s : SentPacket) → ((t : SentPacket) → In t taken → t.request ≡ s.request) → first_request s.request (taken ++ s ∷ []) ≡ s.request
first_pushed [] s same = refl
first_pushed (t ∷ ts) s same = same t (inl refl)

joined_first : (taken : List SentPacket) (s : SentPacket) → (IsWhole (joined taken s).0 → (t : SentPacket) → In t taken → t.request ≡ s.request) → FirstIs s.request (joined taken s).0
joined_first taken s =
    let P : Step × List SentPacket → Type 0 = (λ r. (IsWhole r.0 → (t : SentPacket) → In t taken → t.request ≡ s.request) → FirstIs s.request r.0) in
    cond_both (ltb 3 (length taken) || not (eqb s.packet.sequence (length taken))) (Drops, []) (cond s.packet.last (Whole (taken ++ s ∷ []), []) (cond (not (eqb (length s.packet.payload) 64)) (Drops, []) (Waits, taken ++ s ∷ []))) P
    (λ _ _. tt)
    (λ _. cond_both s.packet.last (Whole (taken ++ s ∷ []), []) (cond (not (eqb (length s.packet.payload) 64)) (Drops, []) (Waits, taken ++ s ∷ [])) P
    (λ _ same. first_pushed taken s (same tt))
    (λ _. cond_both (not (eqb (length s.packet.payload) 64)) (Drops, []) (Waits, taken ++ s ∷ []) P (λ _ _. tt) (λ _ _. tt)))

takes_first : (taken : List SentPacket) (s : SentPacket) → (IsWhole (takes taken s).0 → (t : SentPacket) → In t (waiting taken s) → t.request ≡ s.request) → FirstIs s.request (takes taken s).0
takes_first [] s =
    cond_both s.packet.first (joined [] s) (Drops, []) (λ r. (IsWhole r.0 → (t : SentPacket) → In t (waiting [] s) → t.request ≡ s.request) → FirstIs s.request r.0)
    (λ _ _. joined_first [] s (λ _ t is. absurd is)) (λ _ _. tt)
takes_first (t ∷ ts) s =
    cond_both s.packet.first (joined [] s) (joined (t ∷ ts) s) (λ r. (IsWhole r.0 → (u : SentPacket) → In u (waiting (t ∷ ts) s) → u.request ≡ s.request) → FirstIs s.request r.0)
    (λ _ _. joined_first [] s (λ _ u is. absurd is))
    (λ f same. joined_first (t ∷ ts) s (λ whole u is. same whole u (subst (λ (b : Bool). In u (cond b [] (t ∷ ts))) (sym f) is)))

module _ (first : ℕ) (split : List ℕ → List Packet) (cutting : IsCutting split) where
  -- the packets of an open assembly are of messages under its tag
  pub record IsAssembly (lookup : ℕ → Option (List ℕ)) (tag : ℕ) (taken : List SentPacket) : Type 0 where
    pub partial : IsPartial 0 taken
    pub each : (t : SentPacket) → In t taken → (bytes : List ℕ) × (lookup t.request ≡ Some bytes) × In t.packet (split bytes)
    pub tags : (t : SentPacket) → In t taken → tag_of first t.request ≡ tag

  pub nothing : (lookup : ℕ → Option (List ℕ)) (tag : ℕ) → IsAssembly lookup tag []
  nothing lookup tag = record { partial = tt; each = λ t is. absurd is; tags = λ t is. absurd is }

  pub assembly_grows : (old new : ℕ → Option (List ℕ)) → Within old new → (tag : ℕ) (taken : List SentPacket) → IsAssembly old tag taken → IsAssembly new tag taken
  assembly_grows old new g tag taken a = record { partial = a.partial; each = λ t is. let x = a.each t is in (x.0, g t.request x.0 x.1, x.2); tags = a.tags }

  module _ (lookup : ℕ → Option (List ℕ)) (begun : ℕ) (bound : (n : ℕ) (bytes : List ℕ) → lookup n ≡ Some bytes → n < begun) where
    message : ℕ → List ℕ
    message n = unwrap_or (lookup n) []

    message_is : (n : ℕ) (bytes : List ℕ) → lookup n ≡ Some bytes → message n ≡ bytes
    unfolding message
    message_is n bytes e = ap (λ (o : Option (List ℕ)). unwrap_or o []) e

    whole_is : (s : SentPacket) (bytes : List ℕ) (st : Step) → message s.request ≡ bytes → IsMessageOf message s st → WholeIs bytes st
    whole_is s bytes Waits e h = tt
    whole_is s bytes Drops e h = tt
    whole_is s bytes (Whole ss) e h = h ∙ e

    -- a packet of a recent message: a whole message is that one, and the packets that wait are an assembly still
    pub assembly_step : (taken : List SentPacket) (s : SentPacket) (bytes : List ℕ) → IsAssembly lookup (tag_of first s.request) taken → lookup s.request ≡ Some bytes → In s.packet (split bytes) → begun ≤ s.request + 8
        → (IsWhole (takes taken s).0 → (t : SentPacket) → In t (waiting taken s) → begun ≤ t.request + 8)
        → WholeIs bytes (takes taken s).0 × IsAssembly lookup (tag_of first s.request) (takes taken s).1 × FirstIs s.request (takes taken s).0
    assembly_step taken s bytes a at is_in live waiting_live =
        let n = s.request in
        let parts : ℕ → List Packet = (λ n. split (message n)) in
        let cuts : (n : ℕ) (p : Packet) → In p (parts n) → IsCutFrom 0 (parts n) (message n) = (λ n p is. (cutting (message n) p is).1) in
        let part : In s.packet (parts n) = subst (λ (bytes : List ℕ). In s.packet (split bytes)) (sym (message_is n bytes at)) is_in in
        let same : IsWhole (takes taken s).0 → (t : SentPacket) → In t (waiting taken s) → t.request ≡ n =
        (λ whole t is. let x = a.each t (in_waiting taken s t is) in
        one_tag first t.request n begun (bound t.request x.0 x.1) (bound n bytes at) (waiting_live whole t is) live (a.tags t (in_waiting taken s t is))) in
        let good : Good parts message cuts taken =
        record { partial = a.partial; each = λ t is. let x = a.each t is in subst (λ (bytes : List ℕ). In t.packet (split bytes)) (sym (message_is t.request x.0 x.1)) x.2 } in
        let r = takes_good parts message cuts taken s good part same in (
          whole_is s bytes (takes taken s).0 (message_is n bytes at) r.0,
          record {
            partial = r.1.partial;
            each = λ t is. elim (in_rest taken s t is) [ inl old ↦ a.each t old | inr e ↦ subst (λ (t : SentPacket). (bytes : List ℕ) × (lookup t.request ≡ Some bytes) × In t.packet (split bytes)) e (bytes, at, is_in) ];
            tags = λ t is. elim (in_rest taken s t is) [ inl old ↦ a.tags t old | inr e ↦ subst (λ (t : SentPacket). tag_of first t.request ≡ tag_of first n) e refl ];
          },
          takes_first taken s same,
        )
