-- A type environment that shows types that can be read is well formed.
use Rattle.std.proofs.Common.{◌≡◌, ◌==◌, ℕ, ◌<◌, true, List, [], ◌∷◌, length, take, Some, slice_get, All, flat_map, sym, ap, ◌∙◌, subst, arith, eqb-true}
use Rattle.std.proofs.lemmas.Grind.{common_steps}
use Rattle.std.proofs.lemmas.List.Elements.{All-contains}
use Rattle.std.proofs.lemmas.Option.{same_Some, none-some, slice_get_within}
use Rattle.std.specs.List.{enumerate_from}
use Rattle.model.specs.lists.Names.{number, has_name}
use Rattle.model.specs.lists.Tables.{TypeEntry}
use Rattle.model.specs.lists.TypeTable.{builtin_names, builtin_from}
use Rattle.model.specs.lists.KnownTypes.{types_inside, StandAtIds}
use Rattle.model.specs.rules.Meaning.{look}
use Rattle.model.specs.claims.Environments.{TypesRead, HasVariantsAtIds, AreReadable, numbered, TypeEnvironment, IsReadAs}
use Rattle.model.specs.claims.Questions.{HasOneNumber, IsWellFormedEnvironment}
use Rattle.model.proofs.Elements.{In, contains_from_in, in_map, map_in}
use Rattle.model.proofs.Members.{get_within, member_from_get}
use Rattle.model.proofs.Names.{at_number, found, number_below}
use Rattle.laws_typing.specs.QuestionLaws.{WellFormedEnvironmentsAreRead}
use Rattle.laws_typing.proofs.EnvironmentsRead.{in_enumerated, enumerated_in, read_environment}
use Rattle.laws_typing.proofs.VariantTerms.{looked_up}

look_in : (es : List (ℕ × ℕ)) (k v : ℕ) → look (λ n. n == k) es ≡ Some v → In es (k, v)
look_in (e ∷ es) k v h = grind (arith, common_steps, look_in es k v, eqb-true e.0 k, same_Some e.1 v, eqb-true, same_Some)
look_in [] k v h = absurd (none-some v h)

module _ (e : TypesRead) (r : AreReadable e) where
  abbrev names : List (List ℕ)
  names = e.known.names

  abbrev pairs : List (ℕ × ℕ)
  pairs = numbered e.known.names e.known.type_names

  -- the name of a type is that of its id, and was met
  record IsNameOf (ty k : ℕ) : Type 0 where
    name : List ℕ
    listed : slice_get e.known.type_names ty ≡ Some name
    met : has_name names name ≡ true
    numbered_so : number names name ≡ k

  name_met : (ty : ℕ) (x : List ℕ) → slice_get e.known.type_names ty ≡ Some x → has_name names x ≡ true
  name_met ty x l = All-contains (λ y. has_name names y ≡ true) e.known.type_names x r.well_formed.names_of_types_met (member_from_get e.known.type_names ty x l)

  name_of : (k ty : ℕ) → In pairs (k, ty) → IsNameOf ty k
  name_of k ty i = grind (arith, common_steps, in_map, in_enumerated, name_met)

  pair_of : (ty : ℕ) (x : List ℕ) → slice_get e.known.type_names ty ≡ Some x → In pairs (number names x, ty)
  pair_of ty x l = map_in (λ (p : ℕ × List ℕ). (number e.known.names p.1, p.0)) (enumerate_from 0 e.known.type_names) (ty, x) (enumerated_in 0 ty ty e.known.type_names x (omega arith) l)

  -- one number is that of one name
  one_name : (x y : List ℕ) → has_name names x ≡ true → number names y ≡ number names x → x ≡ y
  one_name x y h same = at_number names y x (ap (slice_get names) same ∙ found names x h)

  module _ (env : TypeEnvironment) (h : IsReadAs env e) where
    type_below : (k ty : ℕ) → env.type_of k ≡ Some ty → (k < length env.names) × (ty < length env.types)
    type_below k ty g = grind (arith, common_steps, name_of k ty, slice_get_within e.known.type_names ty, name_of, look_in, number_below, slice_get_within)

    constant_below : (k ty : ℕ) → env.constant_type_of k ≡ Some ty → (k < length env.names) × (ty < length env.types)
    constant_below k ty g =
        let i = contains_from_in e.constants (k, ty) (look_in e.constants k ty (sym (h.constants k) ∙ g)) in
        let a : k < length e.known.names = All-contains (λ (c : ℕ × ℕ). c.0 < length e.known.names) e.constants (k, ty) r.names_of_constants i in
        let l : ty < length e.known.types = All-contains (λ (c : ℕ × ℕ). c.1 < length e.known.types) e.constants (k, ty) r.types_of_constants i in
        let x = ap length h.names in
        let y = ap length h.types in
        (omega (arith, a, x), omega (arith, l, y))

    one_number : (ty : ℕ) → ty < length env.types → HasOneNumber env ty
    one_number ty l =
        let y = ap length h.types in
        let z = r.well_formed.as_many_names in
        let g = get_within e.known.type_names ty (omega (arith, l, y, z)) in
        record {
          number = number names g.0;
          of_type =
              h.look_ups (number names g.0)
              ∙ looked_up pairs (number names g.0) ty (pair_of ty g.0 g.1)
              (λ w i. grind (arith, common_steps, name_of, one_name, name_met));
          only = λ k q.
              let n = name_of k ty (look_in pairs k ty (sym (h.look_ups k) ∙ q)) in
              sym n.numbered_so ∙ ap (number names) (same_Some n.name g.0 (sym n.listed ∙ g.1));
        }

    pub shown_well_formed : IsWellFormedEnvironment env
    shown_well_formed = record {
      inverse = h.inverse;
      builtins = subst (λ l. take 13 l ≡ builtin_from 0 builtin_names) (sym h.types) r.well_formed.builtins;
      ids = subst StandAtIds (sym h.types) r.well_formed.ids;
      variants = subst (All HasVariantsAtIds) (sym h.types) r.variants;
      one_number = one_number;
      type_names = type_below;
      constants = constant_below;
      types_in_range = subst (λ (l : List TypeEntry). All (λ ty. ty < length l) (flat_map types_inside l)) (sym h.types) r.well_formed.types_in_range;
      numbers_in_range = grind (arith, common_steps);
      no_errors = h.no_errors;
    }

pub well_formed_environments_are_read_lem : WellFormedEnvironmentsAreRead
well_formed_environments_are_read_lem env = (read_environment env, λ x. shown_well_formed x.0 x.1 env x.2)
