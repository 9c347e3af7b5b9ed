-- Errors noted after errors.
use Rattle.std.proofs.Common.{◌≡◌, ◌≢◌, All, List, [], ◌∷◌, ◌++◌, None, refl, sym, ap, subst, ◌∙◌, inl, inr, append_assoc}
use Rattle.std.proofs.lemmas.List.Elements.{All-append, All-map, All-weaker}
use Rattle.model.specs.claims.Refusals.{IsIllTyped}
use Rattle.core_syntax.specs.Answers.{limit_of}
use Rattle.core_syntax.specs.declared.syntax.Error.{Error}
use Rattle.core_syntax.specs.declared.syntax.Error.TheVariants.{TypeError, UnreachableError, OverlapError, ShadowedError, LimitError}
use Rattle.core_syntax.specs.ErrorViews.{error_view, error_views}
use Rattle.core_syntax.specs.NotedErrors.{AreIllTyped, NotesMore, MayNoteMore}

-- more errors, and so there are some
none_after : (xs ys : List Error) → ys ≢ [] → xs ++ ys ≢ []
none_after [] ys some none = some none
none_after (x ∷ xs) ys some none = absurd (cc)

pub some_noted : {a b : List Error} → NotesMore a b → b ≢ []
some_noted {a} {b} r none = none_after a r.more r.some_more (sym r.added ∙ none)

pub both : (a b c : List Error) → NotesMore a b → NotesMore b c → NotesMore a c
both a b c r s = record {
  more = r.more ++ s.more;
  added = s.added ∙ ap (λ es. es ++ s.more) r.added ∙ append_assoc a r.more s.more;
  some_more = none_after r.more s.more s.some_more;
  forms = All-append (λ e. IsIllTyped (error_view e)) r.more s.more r.forms s.forms;
}

pub may_both : (a b c : List Error) → MayNoteMore a b → MayNoteMore b c → MayNoteMore a c
may_both a b c (inl p) (inl q) = inl (q ∙ p)
may_both a b c (inl p) (inr s) = inr (subst (λ x. NotesMore x c) p s)
may_both a b c (inr r) (inl q) = inr (subst (λ x. NotesMore a x) (sym q) r)
may_both a b c (inr r) (inr s) = inr (both a b c r s)

-- what was noted is of the same form as what was noted before
pub still_ill_typed : {a b : List Error} → NotesMore a b → AreIllTyped a → AreIllTyped b
still_ill_typed {a} {b} r h = subst AreIllTyped (sym r.added) (All-append (λ e. IsIllTyped (error_view e)) a r.more h r.forms)

-- an error that says that something isn't right names no limit
names_none : (e : Error) → IsIllTyped (error_view e) → limit_of e ≡ None
names_none (TypeError msg span) h = refl
names_none (UnreachableError msg span) h = absurd h
names_none (OverlapError msg rules) h = absurd h
names_none (ShadowedError shadowed mask) h = absurd h
names_none (LimitError limit msg span) h = absurd h

pub name_no_limit : (es : List Error) → AreIllTyped es → All (λ e. limit_of e ≡ None) es
name_no_limit es h = All-weaker (λ e. IsIllTyped (error_view e)) (λ e. limit_of e ≡ None) names_none es h

-- what such errors say
pub forms_of : (es : List Error) → AreIllTyped es → All IsIllTyped (error_views es)
forms_of es h = All-map IsIllTyped error_view es h

pub some_views : (es : List Error) → es ≢ [] → error_views es ≢ []
some_views [] some none = some refl
some_views (e ∷ es) some none = absurd (cc)
