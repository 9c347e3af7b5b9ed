-- Errors that are noted in order, each at a place.
use Rattle.std.proofs.Common.{◌≡◌, Bool, false, List, [], ◌∷◌, ◌++◌, length, map, All, Contains, Result, Ok, Err, OnOk, append-nil, inl, inr, refl, sym, ap, ◌∙◌, arith}
use Rattle.std.proofs.lemmas.List.{map-append}
use Rattle.std.proofs.lemmas.List.Elements.{All-nil, All-cons, All-head}
use Rattle.std.proofs.lemmas.Grind.{common_steps}
use Rattle.model.specs.lists.Syntax.{Position}
use Rattle.model.specs.claims.Refusals.{Refusal, IsIllTyped, ill_typed}
use Rattle.model.proofs.Members.{in_alone}
use Rattle.core_syntax.specs.declared.syntax.Error.{Error}
use Rattle.core_syntax.specs.ErrorViews.{error_view, error_views}
use Rattle.core_syntax.specs.NotedErrors.{AreIllTyped, NotesMore, MayNoteMore}
use Rattle.core_syntax.specs.Positions.{HasSingleSpans, positions_named}
use Rattle.core_types.specs.ToldErrors.{IsToldAt, Notes}
use Rattle.core_typed.specs.Elaborating.{place_unless, NotesEachAt}

-- nothing is noted
pub none_at : (old new : List Error) → new ≡ old → NotesEachAt [] old new
none_at old new same = record { more = []; added = same ∙ sym (append-nil old); views = refl; single = All-nil HasSingleSpans }

-- some, then others
pub both_at : (ps qs : List Position) (a b c : List Error) → NotesEachAt ps a b → NotesEachAt qs b c → NotesEachAt (ps ++ qs) a c
both_at ps qs a b c r s = grind (arith, common_steps, map-append)

-- what stands at one place alone
view_is : (at : Position) (r : Refusal) → IsIllTyped r → All (Contains (at ∷ [])) (positions_named r) → r ≡ ill_typed at
view_is at r form named = grind (arith, in_alone)

one_view : (at : Position) (es : List Error) → length es ≡ 1 → All (IsToldAt (at ∷ [])) es → (error_views es ≡ ill_typed at ∷ []) × All HasSingleSpans es
one_view at [] many each = absurd (cc)
one_view at (e ∷ []) many each =
    let told = All-head (IsToldAt (at ∷ [])) e [] each in
    (ap (λ v. v ∷ []) (view_is at (error_view e) told.form told.stands.named), All-cons HasSingleSpans e [] told.stands.single (All-nil HasSingleSpans))
one_view at (e ∷ f ∷ es) many each = absurd (omega (arith, many))

pub told_at : (at : Position) (old new : List Error) → Notes 1 (at ∷ []) old new → NotesEachAt (at ∷ []) old new
told_at at old new n = grind (arith, common_steps, one_view at n.more n.tells.many n.tells.each)

-- they are errors that say that something isn't right
forms_at : (ps : List Position) (es : List Error) → error_views es ≡ map ill_typed ps → AreIllTyped es
forms_at ps [] h = All-nil (λ e. IsIllTyped (error_view e))
forms_at [] (e ∷ es) h = absurd (cc)
forms_at (p ∷ ps) (e ∷ es) h = grind (arith, common_steps, forms_at ps es)

no_views : (es : List Error) → error_views es ≡ [] → es ≡ []
no_views [] h = refl
no_views (e ∷ es) h = absurd (cc)

only_nothing : (old more : List Error) → old ++ more ≡ old → more ≡ []
only_nothing [] more h = h
only_nothing (e ∷ es) more h = only_nothing es more (let tail : es ++ more ≡ es = cc in tail)

more_at : (ps : List Position) {old new : List Error} (more : List Error) → new ≡ old ++ more → error_views more ≡ map ill_typed ps → MayNoteMore old new
more_at ps {old} [] added views = inl (added ∙ append-nil old)
more_at ps (e ∷ es) added views = inr (record { more = e ∷ es; added = added; some_more = λ h. absurd (cc); forms = forms_at ps (e ∷ es) views })

pub may_note : {ps : List Position} {old new : List Error} → NotesEachAt ps old new → MayNoteMore old new
may_note {ps} n = more_at ps n.more n.added n.views

-- what nothing was noted for
pub none_noted : (old new : List Error) → NotesEachAt [] old new → NotesMore old new → ⊥
none_noted old new n m = grind (arith, common_steps, no_views, only_nothing)

-- by a test
pub wrong_at : (b : Bool) (at : Position) (old new : List Error) → b ≡ false → NotesEachAt (at ∷ []) old new → NotesEachAt (place_unless b at) old new
wrong_at b at old new h noted = grind (arith, common_steps)

-- where memory wasn't refused
module _ {X E : Type 0} (r : Result X E) (at : Position) (old new : List Error) where
  pub told_when : OnOk r (Notes 1 (at ∷ []) old new) → OnOk r (NotesEachAt (at ∷ []) old new)
  told_when n = elim r as (λ q. OnOk q (Notes 1 (at ∷ []) old new) → OnOk q (NotesEachAt (at ∷ []) old new)) [ Ok x ↦ λ m. told_at at old new m | Err e ↦ λ m. m ] n

  pub wrong_when : (b : Bool) → b ≡ false → OnOk r (NotesEachAt (at ∷ []) old new) → OnOk r (NotesEachAt (place_unless b at) old new)
  wrong_when b h n = elim r as (λ q. OnOk q (NotesEachAt (at ∷ []) old new) → OnOk q (NotesEachAt (place_unless b at) old new)) [ Ok x ↦ λ m. wrong_at b at old new h m | Err e ↦ λ m. m ] n
