-- Whether each term is defined, looked at one after another.
use Rattle.std.proofs.Common.{◌≡◌, ◌≢◌, ℕ, ◌+◌, ◌<◌, IsTrue, List, [], ◌∷◌, ◌++◌, take, drop, get_or, length, All, refl, sym, ap, subst, ◌∙◌, inl, inr, ◌⊎◌, arith}
use Rattle.std.proofs.lemmas.List.{at_drop_more}
use Rattle.std.proofs.lemmas.List.Elements.{All-nil, All-cons, All-head, All-tail, All-append}
use Rattle.std.proofs.lemmas.Grind.{common_steps}
use Rattle.core_syntax.specs.declared.syntax.Error.{Error}
use Rattle.model.specs.lists.Tables.{TermEntry}
use Rattle.core_terms.specs.declared.term.Term.{Term}
use Rattle.core_terms.specs.TermViews.{term_view, term_views}
use Rattle.core_syntax.specs.NotedErrors.{NotesMore}
use Rattle.core_syntax.specs.Positions.{NotesAt}
use Rattle.core_syntax.proofs.NotedErrors.{both, some_noted}
use Rattle.core_typed.specs.Elaborating.{Checks}
use Rattle.core_typed.specs.RuleNaming.{is_defined_term, AreDefined, IsLeftUndefined, left_undefined}
use Rattle.core_typed.proofs.FirstErrors.{may_check, goes_on, IsNoted, BeginsUnless, begins_next, parted, before_next}

abbrev IsDefinedTerm : TermEntry → Type 0
IsDefinedTerm t = IsTrue (is_defined_term t)

-- terms that are left to be looked at
abbrev pub DefinedAt : List TermEntry → List TermEntry → List Error → List Error → Type 0
DefinedAt all rest old new = ((new ≡ old) × (All IsDefinedTerm rest → All IsDefinedTerm all) × (All IsDefinedTerm all → All IsDefinedTerm rest)) ⊎ (NotesMore old new × (All IsDefinedTerm all → ⊥))

step_defined : (all rest : List TermEntry) (t : TermEntry) (old mid new : List Error) → DefinedAt all (t ∷ rest) old mid → Checks mid new (IsDefinedTerm t) → DefinedAt all rest old new
step_defined all rest t old mid new (inl a) (inl c) =
    inl (c.0 ∙ a.0, λ h. a.1 (All-cons IsDefinedTerm t rest c.1 h), λ h. All-tail IsDefinedTerm t rest (a.2 h))
step_defined all rest t old mid new (inl a) (inr c) = inr (subst (λ es. NotesMore es new) a.0 c.0, λ h. c.1 (All-head IsDefinedTerm t rest (a.2 h)))
step_defined all rest t old mid new (inr a) (inl c) = inr (subst (NotesMore old) (sym c.0) a.0, a.1)
step_defined all rest t old mid new (inr a) (inr c) = inr (both old mid new a.0 c.0, a.1)

pub next_defined : (terms : List Term) (i : ℕ) (t : Term) → i < length terms → t ≡ get_or terms i t → (old mid new : List Error) → DefinedAt (term_views terms) (term_views (drop i terms)) old mid → Checks mid new (IsDefinedTerm (term_view t)) → DefinedAt (term_views terms) (term_views (drop (i + 1) terms)) old new
next_defined terms i t within at old mid new a c =
    let left : term_views (drop i terms) ≡ term_view t ∷ term_views (drop (i + 1) terms) =
    at_drop_more term_views terms i t within ∙ ap (λ x. term_view x ∷ term_views (drop (i + 1) terms)) (sym at) in
    step_defined (term_views terms) (term_views (drop (i + 1) terms)) (term_view t) old mid new (subst (λ ts. DefinedAt (term_views terms) ts old mid) left a) c

pub first_defined : (all : List TermEntry) (es : List Error) → DefinedAt all all es es
first_defined all es = inl (refl, λ h. h, λ h. h)

pub last_defined : (all : List TermEntry) (old new : List Error) → DefinedAt all [] old new → Checks old new (AreDefined all)
last_defined all old new h = grind (arith, common_steps)

-- the first term that isn't defined
module _ (before rest : List TermEntry) (t : TermEntry) (all : List TermEntry) (split : all ≡ before ++ t ∷ rest) (mid new : List Error) (none : mid ≡ []) (right : AreDefined before) (noted : NotesAt (t.at ∷ []) mid new) where
  left_here : Checks mid new (IsDefinedTerm t) → ((new ≡ []) × AreDefined (before ++ t ∷ [])) ⊎ ((new ≢ []) × IsNoted (IsLeftUndefined all) mid new)
  left_here (inl c) = inl (c.0 ∙ none, All-append IsDefinedTerm before (t ∷ []) right (All-cons IsDefinedTerm t [] c.1 (All-nil IsDefinedTerm)))
  left_here (inr c) = inr (some_noted c.0, (t.at ∷ [], left_undefined before t rest split right c.1, noted))

-- the terms before one at a place
abbrev pub terms_before : List Term → ℕ → List TermEntry
terms_before terms i = term_views (take i terms)

pub next_begins : (terms : List Term) (i : ℕ) (t : Term) → i < length terms → t ≡ get_or terms i t → (old mid new : List Error) → Checks mid new (IsDefinedTerm (term_view t)) → NotesAt ((term_view t).at ∷ []) mid new
    → BeginsUnless (IsLeftUndefined (term_views terms)) (AreDefined (terms_before terms i)) old mid → BeginsUnless (IsLeftUndefined (term_views terms)) (AreDefined (terms_before terms (i + 1))) old new
next_begins terms i t within at old mid new c noted b =
    let all = term_views terms in
    let before = terms_before terms i in
    subst (λ ts. BeginsUnless (IsLeftUndefined all) (AreDefined ts) old new) (sym (before_next term_view terms i t within at))
    (begins_next (IsLeftUndefined all) (AreDefined before) (AreDefined (before ++ term_view t ∷ [])) old mid new b (goes_on mid new (may_check c))
    (λ none right. left_here before (term_views (drop (i + 1) terms)) (term_view t) all (parted term_view terms i t within at) mid new none right noted c))
