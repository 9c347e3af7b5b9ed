-- The first error of a list, while errors are noted one after another.
use Rattle.std.proofs.Common.{◌≡◌, ◌≢◌, ℕ, suc, ◌+◌, ◌<◌, Contains, List, [], ◌∷◌, ◌++◌, length, map, take, drop, get_or, arith, add-one, sym, ap, subst, refl, ◌∙◌, inl, inr, ◌⊎◌}
use Rattle.std.proofs.lemmas.List.{append-nil}
use Rattle.std.proofs.lemmas.Grind.{common_steps}
use Rattle.model.specs.lists.Syntax.{Position}
use Rattle.model.proofs.Members.{nothing_in, in_head}
use Rattle.core_syntax.specs.declared.syntax.Error.{Error}
use Rattle.core_syntax.specs.NotedErrors.{MayNoteMore}
use Rattle.core_syntax.specs.Positions.{ErrorStandsAt, NotesAt}
use Rattle.core_typed.specs.Elaborating.{Checks}
use Rattle.core_typed.specs.FirstErrors.{BeginsAt, MayBegin}

-- errors that go on from others
abbrev pub GoesOn : List Error → List Error → Type 0
GoesOn old new = (more : List Error) × (new ≡ old ++ more)

pub goes_on : (old new : List Error) → MayNoteMore old new → GoesOn old new
goes_on old new h = grind (arith, common_steps, append-nil)

-- what a check notes
pub may_check : {a b : List Error} {P : Type 0} → Checks a b P → MayNoteMore a b
may_check h = grind (arith, common_steps)

-- what is noted where there was nothing stands there
stands_first : (ps : List Position) (old : List Error) (first : Error) (rest : List Error) → old ≡ [] → NotesAt ps old (first ∷ rest) → ErrorStandsAt ps first
stands_first ps old first rest none noted = elim (noted.each first (in_head first rest)) [
  | inl before ↦ absurd (nothing_in first (subst (λ es. Contains es first) none before))
  | inr stands ↦ stands
]

module _ (IsWrong : List Position → Type 0) where
  pub begins_still : (old new : List Error) → BeginsAt IsWrong old → GoesOn old new → BeginsAt IsWrong new
  begins_still old new b on = grind (arith, common_steps)

  -- the same, and something holds as long as there is no error
  abbrev pub BeginsUnless : Type 0 → List Error → List Error → Type 0
  BeginsUnless Right old new = old ≡ [] → ((new ≡ []) × Right) ⊎ BeginsAt IsWrong new

  -- something wrong is noted at some positions
  abbrev pub IsNoted : List Error → List Error → Type 0
  IsNoted old new = (ps : List Position) × IsWrong ps × NotesAt ps old new

  noted_now : (old new : List Error) → old ≡ [] → new ≢ [] → IsNoted old new → BeginsAt IsWrong new
  noted_now old [] none some noted = absurd (some refl)
  noted_now old (e ∷ es) none some noted = record { first = e; rest = es; is = refl; positions = noted.0; wrong = noted.1; stands = stands_first noted.0 old e es none noted.2 }

  -- after the next step, where nothing is wrong or something is noted
  pub begins_next : (Right Then : Type 0) (old mid new : List Error) → BeginsUnless Right old mid → GoesOn mid new
      → (mid ≡ [] → Right → ((new ≡ []) × Then) ⊎ ((new ≢ []) × IsNoted mid new)) → BeginsUnless Then old new
  begins_next Right Then old mid new before on step none = grind (arith, common_steps, begins_still, noted_now)

  pub begins_first : (Right : Type 0) (es : List Error) → Right → BeginsUnless Right es es
  begins_first Right es right none = inl (none, right)

  pub may_begin : (Right : Type 0) (old new : List Error) → BeginsUnless Right old new → MayBegin IsWrong old new
  may_begin Right old new b none = grind (arith, common_steps)

-- the same said otherwise
pub begins_as : (P Q : List Position → Type 0) → ((ps : List Position) → P ps → Q ps) → (es : List Error) → BeginsAt P es → BeginsAt Q es
begins_as P Q f es b = record { first = b.first; rest = b.rest; is = b.is; positions = b.positions; wrong = f b.positions b.wrong; stands = b.stands }

-- the elements before a place of a list, the one there and those after it
parted_here : {X Y : Type 0} (view : X → Y) (xs : List X) (i : ℕ) (x : X) → i < length xs → x ≡ get_or xs i x → map view xs ≡ map view (take i xs) ++ view x ∷ map view (drop (suc i) xs)
parted_here view (y ∷ xs) (suc i) x within is = ap (λ zs. view y ∷ zs) (parted_here view xs i x (omega (arith, within)) is)
parted_here view xs i x within is = grind arith

pub parted : {X Y : Type 0} (view : X → Y) (xs : List X) (i : ℕ) (x : X) → i < length xs → x ≡ get_or xs i x → map view xs ≡ map view (take i xs) ++ view x ∷ map view (drop (i + 1) xs)
parted view xs i x within is = parted_here view xs i x within is ∙ ap (λ k. map view (take i xs) ++ view x ∷ map view (drop k xs)) (sym (add-one i))

taken_here : {X Y : Type 0} (view : X → Y) (xs : List X) (i : ℕ) (x : X) → i < length xs → x ≡ get_or xs i x → map view (take (suc i) xs) ≡ map view (take i xs) ++ view x ∷ []
taken_here view (y ∷ xs) (suc i) x within is = ap (λ zs. view y ∷ zs) (taken_here view xs i x (omega (arith, within)) is)
taken_here view xs i x within is = grind arith

pub before_next : {X Y : Type 0} (view : X → Y) (xs : List X) (i : ℕ) (x : X) → i < length xs → x ≡ get_or xs i x → map view (take (i + 1) xs) ≡ map view (take i xs) ++ view x ∷ []
before_next view xs i x within is = ap (λ k. map view (take k xs)) (add-one i) ∙ taken_here view xs i x within is
