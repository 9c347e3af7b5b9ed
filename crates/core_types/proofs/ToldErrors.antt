-- Errors that are told: one more, of a part, of one definition after another; and the first of them.
use Rattle.std.proofs.Common.{◌≡◌, ◌≢◌, ℕ, suc, ◌+◌, List, [], ◌∷◌, ◌++◌, length, All, Contains, refl, sym, ap, subst, ◌∙◌, arith}
use Rattle.std.proofs.lemmas.Grind.{flat_map-append}
use Rattle.std.proofs.lemmas.List.{append-nil, append_assoc, length-append}
use Rattle.std.proofs.lemmas.List.Elements.{All-nil, All-append, All-weaker, Contains-append_left, Contains-append_right}
use Rattle.std.proofs.lemmas.Grind.{common_steps}
use Rattle.model.specs.lists.Syntax.{Position, Definition}
use Rattle.model.specs.claims.Refusals.{IsIllTyped}
use Rattle.core_syntax.specs.declared.syntax.Error.{Error}
use Rattle.core_syntax.specs.ErrorViews.{error_view}
use Rattle.core_syntax.specs.Positions.{ErrorStandsAt, OccurAmong, definition_positions, positions_of}
use Rattle.core_syntax.proofs.Positioned.{stand_among}
use Rattle.core_types.specs.ToldErrors.{IsToldAt, Told, of_none, of_one_more, Notes, NotesOf, NotesEach}

-- an error more
pub one_noted : (ps : List Position) (old new : List Error) (e : Error) → new ≡ old ++ e ∷ [] → IsIllTyped (error_view e) → ErrorStandsAt ps e → Notes 1 ps old new
one_noted ps old new e added form stands = grind (arith, common_steps)

pub both_noted : (ps : List Position) (m n : ℕ) (a b c : List Error) → Notes m ps a b → Notes n ps b c → Notes (m + n) ps a c
both_noted ps m n a b c r s = record {
  more = r.more ++ s.more;
  added = s.added ∙ ap (λ es. es ++ s.more) r.added ∙ append_assoc a r.more s.more;
  tells = record {
    many = length-append r.more s.more ∙ ap (λ k. k + length s.more) r.tells.many ∙ ap (λ k. m + k) s.tells.many;
    each = All-append (IsToldAt ps) r.more s.more r.tells.each s.tells.each;
  };
}

pub told_among : (ps qs : List Position) (e : Error) → OccurAmong ps qs → IsToldAt ps e → IsToldAt qs e
told_among ps qs e a t = record { form = t.form; stands = stand_among ps qs e a t.stands }

-- what is noted of a part is noted of the whole
pub noted_among : (n : ℕ) (ps qs : List Position) (old new : List Error) → OccurAmong ps qs → Notes n ps old new → Notes n qs old new
noted_among n ps qs old new a r = grind (arith, common_steps, told_among ps qs)

none_behind : (xs ys : List Error) → xs ++ ys ≡ [] → ys ≡ []
none_behind [] ys e = e
none_behind (x ∷ xs) ys e = absurd (cc)

-- and so there are some
pub some_told : (n : ℕ) (ps : List Position) (old new : List Error) → Notes (suc n) ps old new → new ≢ []
some_told n ps old new r none = grind (arith, common_steps, none_behind old r.more (sym r.added ∙ none))

-- and something was noted
pub not_same : (n : ℕ) (ps : List Position) (old new : List Error) → Notes (suc n) ps old new → new ≢ old
not_same n ps old new r same = grind (arith, common_steps, length-append old r.more)

among_earlier : (before : List Definition) (d : Definition) → OccurAmong (positions_of before) (positions_of (before ++ d ∷ []))
among_earlier before d p c = grind (arith, common_steps, flat_map-append definition_positions before (d ∷ []))

among_last : (before : List Definition) (d : Definition) → OccurAmong (definition_positions d) (positions_of (before ++ d ∷ []))
among_last before d p c =
    subst (λ ps. Contains ps p) (sym (flat_map-append definition_positions before (d ∷ []))) (Contains-append_right (positions_of before) (positions_of (d ∷ [])) p (Contains-append_left (definition_positions d) [] p c))

module _ (Says : List Definition → Definition → List Error → Type 0) where
  pub noted_none : (es : List Error) → NotesEach Says [] es es
  noted_none es = record { more = []; added = sym (append-nil es); told = of_none }

  -- those of one definition more
  pub noted_more : (before : List Definition) (d : Definition) (a b c : List Error) → NotesEach Says before a b → NotesOf Says before d b c → NotesEach Says (before ++ d ∷ []) a c
  noted_more before d a b c r s = record {
    more = r.more ++ s.more;
    added = s.added ∙ ap (λ es. es ++ s.more) r.added ∙ append_assoc a r.more s.more;
    told = of_one_more before d r.more s.more r.told s.says;
  }

  -- the first of the errors is the first of those of some definition
  pub record FirstTold (defs : List Definition) (es : List Error) : Type 0 where
    pub first : Error
    pub rest : List Error
    pub is : es ≡ first ∷ rest
    pub before : List Definition
    pub after : List Definition
    pub definition : Definition
    pub whole : defs ≡ before ++ definition ∷ after
    pub own : List Error
    pub says : Says before definition (first ∷ own)

  more_told : (defs : List Definition) (d : Definition) (es own : List Error) → FirstTold defs es → FirstTold (defs ++ d ∷ []) (es ++ own)
  more_told defs d es own f = record {
    first = f.first;
    rest = f.rest ++ own;
    is = ap (λ xs. xs ++ own) f.is;
    before = f.before;
    after = f.after ++ d ∷ [];
    definition = f.definition;
    whole = ap (λ ds. ds ++ d ∷ []) f.whole ∙ append_assoc f.before (f.definition ∷ f.after) (d ∷ []);
    own = f.own;
    says = f.says;
  }

  here_told : (before : List Definition) (d : Definition) (own : List Error) → Says before d own → own ≢ [] → FirstTold (before ++ d ∷ []) own
  here_told before d [] says some = absurd (some refl)
  here_told before d (e ∷ own) says some = grind (arith, common_steps)

  pub first_told : (defs : List Definition) (es : List Error) → Told Says defs es → es ≢ [] → FirstTold defs es
  first_told _ _ of_none some = absurd (some refl)
  first_told _ _ (of_one_more before d [] own told says) some = here_told before d own says some
  first_told _ _ (of_one_more before d (e ∷ es) own told says) some = more_told before d (e ∷ es) own (first_told before (e ∷ es) told (λ none. absurd (cc)))

  module _ (own : (before : List Definition) (d : Definition) (es : List Error) → Says before d es → All (IsToldAt (definition_positions d)) es) where
    -- what is told of each definition is told of all
    pub each_told : (defs : List Definition) (es : List Error) → Told Says defs es → All (IsToldAt (positions_of defs)) es
    each_told _ _ of_none = All-nil (IsToldAt [])
    each_told _ _ (of_one_more before d es more told says) =
        let earlier : (e : Error) → IsToldAt (positions_of before) e → IsToldAt (positions_of (before ++ d ∷ [])) e = λ e t. told_among (positions_of before) (positions_of (before ++ d ∷ [])) e (among_earlier before d) t in
        let this : (e : Error) → IsToldAt (definition_positions d) e → IsToldAt (positions_of (before ++ d ∷ [])) e = λ e t. told_among (definition_positions d) (positions_of (before ++ d ∷ [])) e (among_last before d) t in
        All-append (IsToldAt (positions_of (before ++ d ∷ []))) es more
        (All-weaker (IsToldAt (positions_of before)) (IsToldAt (positions_of (before ++ d ∷ []))) earlier es (each_told before es told))
        (All-weaker (IsToldAt (definition_positions d)) (IsToldAt (positions_of (before ++ d ∷ []))) this more (own before d more says))
