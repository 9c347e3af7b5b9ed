-- Runs: which answers and which states the calls of a visit may lead to.
use Rattle.std.specs.Prelude.{◌≡◌, ◌⊎◌, ℕ, List, map, Option, Some, None, Result, Ok, Err, MatchResult}
use Rattle.std.specs.Ordering.{nat_cmp}
use Rattle.std.specs.BTreeMap.{insert_entry, is_at}
use Rattle.std.specs.Map.{lookup}

-- the state before, the answer or a fault, the state after
abbrev pub VisitRun : Type 0 → Type 0 → Type 0 → Type 1
VisitRun F S A = S → Result A F → S → Type 0

module _ {F S A : Type 0} where
  -- no call, and the answer a
  abbrev pub done : A → VisitRun F S A
  done a s r t = (r ≡ Ok a) × (t ≡ s)

  -- what can't be visited
  abbrev pub no_run : VisitRun F S A
  no_run s r t = ⊥

  -- no call, for want of memory, where that has a fault
  abbrev pub refused : Option F → VisitRun F S A
  refused None s r t = ⊥
  refused (Some fault) s r t = (r ≡ Err fault) × (t ≡ s)

  -- here memory is taken, which may be refused
  abbrev pub or_refused : Option F → VisitRun F S A → VisitRun F S A
  or_refused want m s r t = refused want s r t ⊎ m s r t

-- m, and then what k says of its answer; a fault of m ends the run
abbrev pub and_then : {F S A B : Type 0} → VisitRun F S A → (A → VisitRun F S B) → VisitRun F S B
and_then {F} {S} {A} m k s r t = ((a : A) × (u : S) × m s (Ok a) u × k a u r t) ⊎ ((e : F) × m s (Err e) t × (r ≡ Err e))

-- variables by their numbers, ascending, and what they are bound to
abbrev pub BoundIds : Type 0 → Type 0
BoundIds P = List (ℕ × P)

-- the variables that are bound
abbrev pub bound_vars : {P : Type 0} → BoundIds P → List ℕ
bound_vars vs = map (λ b. b.0) vs

-- what a variable is bound to
abbrev pub bound_at : {P : Type 0} → BoundIds P → ℕ → Option P
bound_at vs x = lookup (is_at (nat_cmp x)) vs

-- the variables, and x bound to an id, over what it was bound to
abbrev pub with_bound : {P : Type 0} → BoundIds P → ℕ → P → BoundIds P
with_bound vs x id = insert_entry nat_cmp vs x id

module _ {F P : Type 0} where
  -- the variable x is bound, for which memory is taken
  abbrev pub binds : Option F → ℕ → P → VisitRun F (BoundIds P) (Unit {0})
  binds want x id s r t = ((r ≡ Ok tt) × (t ≡ with_bound s x id)) ⊎ refused want s r t

  -- what the variable x is bound to
  abbrev pub finds : ℕ → VisitRun F (BoundIds P) P
  finds x s r t = (id : P) × (bound_at s x ≡ Some id) × done id s r t

module _ {F S P A : Type 0} where
  -- a step of the visitor, which leaves the variables
  abbrev pub calls_visitor : VisitRun F S A → VisitRun F (S × BoundIds P) A
  calls_visitor m s r t = m s.0 r t.0 × (t.1 ≡ s.1)

  -- a step of the variables, which leaves the visitor
  abbrev pub on_variables : VisitRun F (BoundIds P) A → VisitRun F (S × BoundIds P) A
  on_variables m s r t = m s.1 r t.1 × (t.0 ≡ s.0)

-- a look at the variables, with no call
abbrev pub looks : {F S P : Type 0} → VisitRun F (BoundIds P) P → BoundIds P → VisitRun F S P
looks m vs s r t = m vs r vs × (t ≡ s)

-- the answer a, if a step is Ok
abbrev pub answering : {F A : Type 0} → A → Result (Unit {0}) F → Result A F
answering a (Ok x) = Ok a
answering a (Err e) = Err e

-- A visitor of another kind is lent: `lend` gives it, `body`, called once, takes it to another state with an answer, and
-- then `take` is handed that state with the answer, or `leave` with a fault, which is then the run's.
abbrev pub lent_run : {F S L X Y : Type 0} → VisitRun F S L → (L → X → VisitRun F S Y) → (L → S → S → Type 0) → (L → Result X F → L → Type 0) → VisitRun F S Y
lent_run {F} {S} {L} {X} lend take leave body s r t =
    ((e : F) × lend s (Err e) t × (r ≡ Err e))
    ⊎ ((l : L) × (h : S) × (a : Result X F) × (m : L) × lend s (Ok l) h × body l a m × MatchResult a (λ x. take m x h r t) (λ e. leave m h t × (r ≡ Err e)))

-- what is taken back with an answer that the run then gives
abbrev pub taking : {F S L X : Type 0} → (S → L → Result (Unit {0}) F → S → Type 0) → L → X → VisitRun F S X
taking {F} take l x s r t = (u : Result (Unit {0}) F) × take s l u t × (r ≡ answering x u)
