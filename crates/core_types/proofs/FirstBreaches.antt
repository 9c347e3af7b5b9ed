-- A list with a definition that breaks a condition on types has no type table; the first error is told of such a definition.
use Rattle.std.proofs.Common.{◌≡◌, ◌≢◌, ℕ, suc, ◌||◌, Bool, true, cond, List, [], ◌∷◌, ◌++◌, length, All, Contains, sym, ap, subst, ◌∙◌, arith}
use Rattle.std.proofs.lemmas.List.Elements.{All-head, All-contains, Contains-append_right}
use Rattle.std.proofs.lemmas.Grind.{common_steps}
use Rattle.model.specs.lists.Syntax.{Position, Definition, type_definition, extern_definition, extern_const}
use Rattle.model.specs.lists.Names.{number, has_name}
use Rattle.model.specs.lists.TypeTable.{builtin_names, type_of, type_trees, type_names, all_type_names, ConstantTree, constant_of, IsOfKnownType, IsValidTypes}
use Rattle.model.proofs.Members.{in_head, in_flat_map}
use Rattle.model.proofs.Names.{found, number_below, has_append}
use Rattle.model.proofs.Positions.{twice}
use Rattle.core_syntax.specs.declared.syntax.Error.{Error}
use Rattle.core_syntax.specs.Positions.{type_positions, definition_positions}
use Rattle.core_types.specs.Reading.{IsRightType}
use Rattle.core_types.specs.ToldErrors.{IsToldAt, TellsUnless, Told}
use Rattle.core_types.specs.TypeBreaches.{BreaksTypes, takes_a_name, isnt_right, has_unknown_type, FirstBreaksTypes}
use Rattle.core_types.specs.TypeErrors.{times_taken, TellsOfName, TellsOfType, TellsOfConstant, AreErrorsOfTypes}
use Rattle.core_types.proofs.KnownTypes.{names_split}
use Rattle.core_types.proofs.RightTypes.{types_right}
use Rattle.core_types.proofs.ToldErrors.{first_told}
use Rattle.core_types.proofs.TypeErrors.{name_at, type_at, constant_at}

module _ (defs : List Definition) where
  -- where a definition breaks a condition, the list isn't valid
  pub breaks_invalid : (d : Definition) → BreaksTypes defs d → IsValidTypes defs → ⊥
  breaks_invalid _ (takes_a_name before after t whole taken) v =
      let names = all_type_names before in
      let x = t.name.text in
      twice names (type_names after) (all_type_names defs) x (number names x) v.distinct (sym (ap all_type_names whole ∙ names_split before (type_definition t ∷ after))) (number_below names x taken) (found names x taken)
  breaks_invalid _ (isnt_right t within wrong) v =
      wrong (All-contains (IsRightType defs) (type_trees defs) t (types_right defs v) (in_flat_map type_of defs (type_definition t) t within (in_head t [])))
  breaks_invalid d (has_unknown_type _ c within makes unknown) v = grind (arith, common_steps, in_flat_map constant_of defs d c within makes)

  pub first_invalid : (es : List Error) → FirstBreaksTypes defs es → IsValidTypes defs → ⊥
  first_invalid es b v = breaks_invalid b.definition b.breaks v

  -- what is told behind them changes nothing
  first_stays : (es more : List Error) → FirstBreaksTypes defs es → FirstBreaksTypes defs (es ++ more)
  first_stays es more b = grind (arith, common_steps)

  -- each error is told of a definition that breaks a condition
  module _ (Says : List Definition → Definition → List Error → Type 0)
      (own : (before : List Definition) (d : Definition) (es : List Error) → Says before d es → All (IsToldAt (definition_positions d)) es)
      (breaks : (before after : List Definition) (d : Definition) (e : Error) (es : List Error) → defs ≡ before ++ d ∷ after → Says before d (e ∷ es) → BreaksTypes defs d) where
    begins : (es : List Error) → Told Says defs es → es ≢ [] → FirstBreaksTypes defs es
    begins es told some =
        let f = first_told Says defs es told some in
        record {
          first = f.first;
          rest = f.rest;
          is = f.is;
          definition = f.definition;
          breaks = breaks f.before f.after f.definition f.first f.own f.whole f.says;
          stands = (All-head (IsToldAt (definition_positions f.definition)) f.first f.own (own f.before f.definition (f.first ∷ f.own) f.says)).stands;
        }

  among : (before after : List Definition) (d : Definition) → defs ≡ before ++ d ∷ after → Contains defs d
  among before after d whole = subst (λ ds. Contains ds d) (sym whole) (Contains-append_right before (d ∷ after) d (in_head d after))

  some_times : (before : List Definition) (x : List ℕ) (n : ℕ) → suc n ≡ times_taken before x → has_name (all_type_names before) x ≡ true
  some_times before x n some = has_append builtin_names (type_names before) x ∙ either (has_name builtin_names x) (has_name (type_names before) x) some
    where
      either : (a b : Bool) → suc n ≡ cond a 2 (cond b 1 0) → a || b ≡ true
      either a b e = grind (arith, common_steps)

  name_breaks : (before after : List Definition) (d : Definition) (e : Error) (es : List Error) → defs ≡ before ++ d ∷ after → TellsOfName before d (e ∷ es) → BreaksTypes defs d
  name_breaks before after (type_definition t) e es whole h = takes_a_name before after t whole (some_times before t.name.text (length es) h.many)
  name_breaks before after _ e es whole h = absurd (cc)

  wrong : (Right : Type 0) (ps : List Position) (e : Error) (es : List Error) → TellsUnless Right ps (e ∷ es) → Right → ⊥
  wrong Right ps e es h = grind (arith, common_steps)

  type_breaks : (before after : List Definition) (d : Definition) (e : Error) (es : List Error) → defs ≡ before ++ d ∷ after → TellsOfType defs before d (e ∷ es) → BreaksTypes defs d
  type_breaks before after (type_definition t) e es whole h = isnt_right t (among before after (type_definition t) whole) (wrong (IsRightType defs t) (type_positions t) e es h)
  type_breaks before after _ e es whole h = absurd (cc)

  constant_breaks : (before after : List Definition) (d : Definition) (e : Error) (es : List Error) → defs ≡ before ++ d ∷ after → TellsOfConstant defs before d (e ∷ es) → BreaksTypes defs d
  constant_breaks before after (extern_definition (extern_const name ty at)) e es whole h =
      let c : ConstantTree = record { name = name; ty = ty } in
      has_unknown_type (extern_definition (extern_const name ty at)) c (among before after (extern_definition (extern_const name ty at)) whole) (in_head c []) (wrong (IsOfKnownType defs c) (at ∷ []) e es h)
  constant_breaks before after _ e es whole h = absurd (cc)

  -- the first errors that there are
  first_some : (es more : List Error) → (es ≢ [] → FirstBreaksTypes defs es) → (more ≢ [] → FirstBreaksTypes defs more) → es ++ more ≢ [] → FirstBreaksTypes defs (es ++ more)
  first_some [] more first later some = later some
  first_some (e ∷ es) more first later some = first_stays (e ∷ es) more (first (λ none. absurd (cc)))

  -- the first of the errors that are told of types stands at a definition that breaks a condition
  pub first_breaks : (es : List Error) → AreErrorsOfTypes defs es → es ≢ [] → FirstBreaksTypes defs es
  first_breaks es a some =
      subst (FirstBreaksTypes defs) (sym a.are)
      (first_some (a.of_names ++ a.of_types) a.of_constants
      (first_some a.of_names a.of_types (begins TellsOfName name_at name_breaks a.of_names a.names) (begins (TellsOfType defs) (type_at defs) type_breaks a.of_types a.types))
      (begins (TellsOfConstant defs) (constant_at defs) constant_breaks a.of_constants a.constants)
      (λ none. some (a.are ∙ none)))
