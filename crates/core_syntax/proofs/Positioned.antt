-- Errors that stand at positions of definitions, noted after others.
use Rattle.std.proofs.Common.{◌≡◌, All, Contains, List, [], ◌∷◌, ◌++◌, String, sym, ap, ◌∙◌, subst, inl, inr}
use Rattle.std.specs.List.{flat_map}
use Rattle.std.specs.declared.alloc.Global.{Global}
use Rattle.std.proofs.lemmas.List.Elements.{All-weaker, All-contains_itself, Contains-append_left, Contains-append_right, Contains-append_cases}
use Rattle.model.specs.lists.Syntax.{Position}
use Rattle.model.proofs.Members.{nothing_in, in_head, in_tail, in_alone, in_cases, in_flat_map, all_members}
use Rattle.core_syntax.specs.declared.syntax.Error.{Error}
use Rattle.core_why.specs.declared.reasons.Why.{Why}
use Rattle.core_syntax.specs.declared.syntax.Error.TheVariants.{TypeError, LimitError}
use Rattle.core_syntax.specs.declared.syntax.Limit.{Limit}
use Rattle.core_syntax.specs.declared.syntax.Pos.{Pos}
use Rattle.core_syntax.specs.declared.syntax.Span.{Span}
use Rattle.core_syntax.specs.Places.{single_end}
use Rattle.core_syntax.specs.SyntaxViews.{position}
use Rattle.core_syntax.specs.ErrorViews.{error_view}
use Rattle.core_syntax.specs.Positions.{ErrorStandsAt, NotesAt, OccurAmong, positions_named}

-- positions among those of a longer list
pub among_same : (ps : List Position) → OccurAmong ps ps
among_same ps p c = c

pub among_both : (ps qs rs : List Position) → OccurAmong ps qs → OccurAmong qs rs → OccurAmong ps rs
among_both ps qs rs a b p c = b p (a p c)

pub among_left : (ps qs : List Position) → OccurAmong ps (ps ++ qs)
among_left ps qs p c = Contains-append_left ps qs p c

pub among_right : (ps qs : List Position) → OccurAmong qs (ps ++ qs)
among_right ps qs p c = Contains-append_right ps qs p c

pub among_rest : (q : Position) (ps : List Position) → OccurAmong ps (q ∷ ps)
among_rest q ps p c = in_tail q p ps c

pub among_one : (q : Position) (ps : List Position) → Contains ps q → OccurAmong (q ∷ []) ps
among_one q ps within p c = subst (Contains ps) (in_alone q p c) within

pub among_first : (q : Position) (ps : List Position) → OccurAmong (q ∷ []) (q ∷ ps)
among_first q ps = among_one q (q ∷ ps) (in_head q ps)

-- positions among others
pub among_none : (rs : List Position) → OccurAmong [] rs
among_none rs p c = absurd (nothing_in p c)

pub among_join : (ps qs rs : List Position) → OccurAmong ps rs → OccurAmong qs rs → OccurAmong (ps ++ qs) rs
among_join ps qs rs a b p c = elim (Contains-append_cases ps qs p c) [ inl d ↦ a p d | inr d ↦ b p d ]

pub among_next : (q : Position) (ps rs : List Position) → Contains rs q → OccurAmong ps rs → OccurAmong (q ∷ ps) rs
among_next q ps rs here a p c = elim (in_cases q p ps c) [ inl e ↦ subst (Contains rs) e here | inr d ↦ a p d ]

pub among_under : (q : Position) (ps rs : List Position) → OccurAmong ps rs → OccurAmong (q ∷ ps) (q ∷ rs)
among_under q ps rs a = among_next q ps (q ∷ rs) (in_head q rs) (among_both ps rs (q ∷ rs) a (among_rest q rs))

pub among_sides : (ps qs ps' qs' : List Position) → OccurAmong ps ps' → OccurAmong qs qs' → OccurAmong (ps ++ qs) (ps' ++ qs')
among_sides ps qs ps' qs' a b = among_join ps qs (ps' ++ qs') (among_both ps ps' (ps' ++ qs') a (among_left ps' qs')) (among_both qs qs' (ps' ++ qs') b (among_right ps' qs'))

pub among_each : {X : Type 0} (f : X → List Position) (xs : List X) (x : X) → Contains xs x → OccurAmong (f x) (flat_map f xs)
among_each f xs x c p h = in_flat_map f xs x p c h

pub stand_among : (ps qs : List Position) (e : Error) → OccurAmong ps qs → ErrorStandsAt ps e → ErrorStandsAt qs e
stand_among ps qs e a s = record {
  named = All-weaker (Contains ps) (Contains qs) a (positions_named (error_view e)) s.named;
  single = s.single;
}

-- an error at a place
pub stands_there : (at : Pos) (msg : Why) (span : Span) → span.from ≡ at → span.to ≡ single_end at → ErrorStandsAt (position at ∷ []) (TypeError msg span)
stands_there at msg span from to = record {
  named = subst (λ p. All (Contains (position at ∷ [])) (position p ∷ [])) (sym from) (All-contains_itself (position at ∷ []));
  single = to ∙ ap single_end (sym from);
}

pub limit_stands_there : (at : Pos) (limit : Limit) (msg : String Global) (span : Span) → span.from ≡ at → span.to ≡ single_end at → ErrorStandsAt (position at ∷ []) (LimitError limit msg span)
limit_stands_there at limit msg span from to = record {
  named = subst (λ p. All (Contains (position at ∷ [])) (position p ∷ [])) (sym from) (All-contains_itself (position at ∷ []));
  single = to ∙ ap single_end (sym from);
}

-- nothing was noted
pub notes_nothing : (ps : List Position) (old new : List Error) → new ≡ old → NotesAt ps old new
notes_nothing ps old new same = record { each = λ e c. inl (subst (λ es. Contains es e) same c) }

pub notes_one : (ps : List Position) (old new : List Error) (e : Error) → new ≡ old ++ e ∷ [] → ErrorStandsAt ps e → NotesAt ps old new
notes_one ps old new e added stands = record {
  each = λ x c. elim (Contains-append_cases old (e ∷ []) x (subst (λ es. Contains es x) added c)) [
    | inl before ↦ inl before
    | inr this ↦ inr (subst (ErrorStandsAt ps) (in_alone e x this) stands)
  ];
}

pub notes_both : (ps : List Position) (a b c : List Error) → NotesAt ps a b → NotesAt ps b c → NotesAt ps a c
notes_both ps a b c first second = record {
  each = λ e last. elim (second.each e last) [
    | inl before ↦ first.each e before
    | inr stands ↦ inr stands
  ];
}

pub notes_among : (ps qs : List Position) (old new : List Error) → OccurAmong ps qs → NotesAt ps old new → NotesAt qs old new
notes_among ps qs old new a n = record {
  each = λ e c. elim (n.each e c) [
    | inl before ↦ inl before
    | inr stands ↦ inr (stand_among ps qs e a stands)
  ];
}

-- errors at some positions, and at others
pub notes_parts : (ps qs rs : List Position) (old mid new : List Error) → OccurAmong ps rs → OccurAmong qs rs → NotesAt ps old mid → NotesAt qs mid new → NotesAt rs old new
notes_parts ps qs rs old mid new a b first second = notes_both rs old mid new (notes_among ps rs old mid a first) (notes_among qs rs mid new b second)

-- all errors stand there where there were none before
pub all_stand : (ps : List Position) (es : List Error) → NotesAt ps [] es → All (ErrorStandsAt ps) es
all_stand ps es n = all_members (ErrorStandsAt ps) es (λ e c. elim (n.each e c) [
  | inl before ↦ absurd (nothing_in e before)
  | inr stands ↦ stands
])
