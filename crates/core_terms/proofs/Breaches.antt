-- The first error that is noted, and where it stands, one step after another.
use Rattle.std.proofs.Common.{◌≡◌, ◌≢◌, List, [], ◌∷◌, ◌++◌, Contains, refl, sym, subst, inl, inr, arith}
use Rattle.std.proofs.lemmas.Grind.{common_steps}
use Rattle.model.specs.lists.Syntax.{Position, Definition}
use Rattle.model.specs.lists.KnownTypes.{KnownTypes}
use Rattle.model.proofs.Members.{in_head, nothing_in}
use Rattle.core_syntax.specs.declared.syntax.Error.{Error}
use Rattle.core_syntax.specs.NotedErrors.{NotesMore, MayNoteMore}
use Rattle.core_syntax.specs.Positions.{NotesAt, OccurAmong}
use Rattle.core_syntax.proofs.NotedErrors.{some_noted}
use Rattle.core_syntax.proofs.Positioned.{stand_among}
use Rattle.core_terms.specs.TermBreaches.{TermGroup, FirstStandsAt, BreaksGroup, FirstBreaksGroup}

-- what is noted at some positions begins there
pub begins_noted : (ps : List Position) (old new : List Error) → NotesAt ps old new → FirstStandsAt ps old new
begins_noted ps old new n = record {
  begins = λ first rest none is. elim (n.each first (subst (λ l. Contains l first) (sym is) (in_head first rest))) [
    | inl before ↦ absurd (nothing_in first (subst (λ l. Contains l first) none before))
    | inr stands ↦ stands
  ];
}

pub begins_among : (ps qs : List Position) (old new : List Error) → OccurAmong ps qs → FirstStandsAt ps old new → FirstStandsAt qs old new
begins_among ps qs old new a b = record { begins = λ first rest none is. stand_among ps qs first a (b.begins first rest none is) }

-- where more is noted the first error stays
first_kept : (more es es' : List Error) (first : Error) (rest : List Error) → es ≢ [] → es' ≡ es ++ more → es' ≡ first ∷ rest → (others : List Error) × (es ≡ first ∷ others)
first_kept more [] es' first rest some e is = absurd (some refl)
first_kept more (x ∷ xs) es' first rest some e is = grind (arith, common_steps)

pub begins_before : (ps : List Position) (a b c : List Error) → NotesMore a b → FirstStandsAt ps a b → MayNoteMore b c → FirstStandsAt ps a c
begins_before ps a b c some begun (inl same) = subst (FirstStandsAt ps a) (sym same) begun
begins_before ps a b c some begun (inr n) = record {
  begins = λ first rest none is. let k = first_kept n.more b c first rest (some_noted some) n.added is in begun.begins first k.0 none k.1;
}

-- one thing after another
pub begins_both : (ps : List Position) (a b c : List Error) → MayNoteMore a b → FirstStandsAt ps a b → MayNoteMore b c → FirstStandsAt ps b c → FirstStandsAt ps a c
begins_both ps a b c (inl same) one more two = subst (λ l. FirstStandsAt ps l c) same two
begins_both ps a b c (inr some) one more two = begins_before ps a b c some one more

-- where there is no error before, the first one now stands where a condition of a group is broken
pub record Breach (k : KnownTypes) (group : TermGroup) (defs : List Definition) (es es' : List Error) : Type 0 where
  pub positions : List Position
  pub breaks : BreaksGroup k defs group positions
  pub begins : FirstStandsAt positions es es'

some_first : (es : List Error) → es ≢ [] → (first : Error) × (rest : List Error) × (es ≡ first ∷ rest)
some_first [] some = absurd (some refl)
some_first (x ∷ xs) some = (x, xs, refl)

pub first_found : (k : KnownTypes) (group : TermGroup) (defs : List Definition) (es es' : List Error) → es ≡ [] → NotesMore es es' → Breach k group defs es es' → FirstBreaksGroup k group defs es'
first_found k group defs es es' none noted b =
    let f = some_first es' (some_noted noted) in
    record { first = f.0; rest = f.1; is = f.2; positions = b.positions; breaks = b.breaks; stands = b.begins.begins f.0 f.1 none f.2 }

pub first_stays : (k : KnownTypes) (group : TermGroup) (defs : List Definition) (es es' : List Error) → NotesMore es es' → FirstBreaksGroup k group defs es → FirstBreaksGroup k group defs es'
first_stays k group defs es es' n f = grind (arith, common_steps)
