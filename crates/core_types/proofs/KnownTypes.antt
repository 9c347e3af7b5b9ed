-- Types that are known by their names, also where a name was taken: a list of definitions in which none is stands for them all.
use Rattle.std.proofs.Common.{◌≡◌, ℕ, suc, ◌+◌, ◌<◌, ◌≤◌, ◌||◌, true, false, List, [], ◌∷◌, ◌++◌, length, map, take, get_or, Some, is_some, Contains, refl, sym, ap, subst, ◌∙◌, inr, ◌⊎◌, arith}
use Rattle.std.proofs.lemmas.Grind.{flat_map-append}
use Rattle.std.proofs.lemmas.List.{append_assoc, append-nil, map-append, map_push, take_more}
use Rattle.std.proofs.lemmas.List.Elements.{All-weaker}
use Rattle.std.proofs.lemmas.Grind.{common_steps}
use Rattle.model.specs.lists.Syntax.{Name, FieldTrees, TypeTree, Definition, type_definition}
use Rattle.model.specs.lists.Names.{number, has_name}
use Rattle.model.specs.lists.TypeTable.{builtin_names, type_of, type_trees, type_names, all_type_names, field_lists_of, field_type_names, place_from, IsKnownType}
use Rattle.model.proofs.Bytes.{same_bytes}
use Rattle.model.proofs.Members.{in_head, in_map, in_flat_map, get_from_member}
use Rattle.model.proofs.Names.{has_append, has_at, has_right}
use Rattle.model.proofs.FirstPlaces.{place_absent, place_missing}
use Rattle.core_syntax.specs.declared.syntax.Def.{Def}
use Rattle.core_syntax.specs.SyntaxViews.{definition_view, definition_views}
use Rattle.core_types.specs.declared.type_env.TypeEnv.{TypeEnv}
use Rattle.core_types.specs.Envs.{names_of, type_at, IsInterned}
use Rattle.core_types.specs.Reading.{NamesType, MeetsNames, AreRightFields, IsRightType}
use Rattle.core_types.specs.Stages.{Sees, KnowsTypes}
use Rattle.core_types.proofs.NamesMet.{sees_met}
use Rattle.core_types.proofs.EnvironmentSteps.{type_of_text, sees_type}

-- the names of types up to a place, and from there on
pub names_split : (before rest : List Definition) → all_type_names (before ++ rest) ≡ all_type_names before ++ type_names rest
names_split before rest =
    ap (λ ts. builtin_names ++ map (λ t. t.name.text) ts) (flat_map-append type_of before rest)
    ∙ ap (λ ns. builtin_names ++ ns) (map-append (λ t. t.name.text) (type_trees before) (type_trees rest))
    ∙ sym (append_assoc builtin_names (type_names before) (type_names rest))

-- a name that has a place is among the names
pub placed_has : (n : ℕ) (ts : List (List ℕ)) (x : List ℕ) → is_some (place_from n x ts) ≡ has_name ts x
placed_has n ts x = grind (arith, common_steps, place_absent n ts x, place_missing n ts x)

-- a name that is there once more
once_more : (ns : List (List ℕ)) (x y : List ℕ) → has_name ns x ≡ true → has_name ns y || has_name (x ∷ []) y ≡ has_name ns y
once_more ns x y there = grind (arith, common_steps, same_bytes x y)

-- the place of a name is not before the first one
place_least : (n : ℕ) (ts : List (List ℕ)) (x : List ℕ) (k : ℕ) → place_from n x ts ≡ Some k → n ≤ k
place_least n [] x k e = absurd (cc)
place_least n (t ∷ ts) x k e = grind (arith, common_steps, place_least (suc n) ts x k)

-- and before the end of those that it is among
pub place_within : (n : ℕ) (xs ys : List (List ℕ)) (x : List ℕ) (k : ℕ) → place_from n x (xs ++ ys) ≡ Some k
    → ((has_name xs x ≡ true) × (k < n + length xs)) ⊎ ((has_name xs x ≡ false) × (n + length xs ≤ k))
place_within n [] ys x k e = let least = place_least n ys x k e in inr (refl, omega (arith, least))
place_within n (t ∷ ts) ys x k e = grind (arith, common_steps, place_within (suc n) ts ys x k)

-- the same names of types: the same types are known, and the same is right
module _ (kept defs : List Definition) (same : (x : List ℕ) → has_name (all_type_names kept) x ≡ has_name (all_type_names defs) x) where
  placed_same : (x : List ℕ) → is_some (place_from 0 x (all_type_names kept)) ≡ is_some (place_from 0 x (all_type_names defs))
  placed_same x = placed_has 0 (all_type_names kept) x ∙ same x ∙ sym (placed_has 0 (all_type_names defs) x)

  known_same : (n : Name) → IsKnownType (all_type_names kept) n → IsKnownType (all_type_names defs) n
  known_same n h = sym (placed_same n.text) ∙ h

  fields_same : (fields : FieldTrees) → AreRightFields kept fields → AreRightFields defs fields
  fields_same fields r = record {
    distinct = r.distinct;
    known = All-weaker (IsKnownType (all_type_names kept)) (IsKnownType (all_type_names defs)) known_same (field_type_names fields) r.known;
  }

  pub right_same : (t : TypeTree) → IsRightType kept t → IsRightType defs t
  right_same t r = record {
    unmarked = r.unmarked;
    marks = r.marks;
    variants = r.variants;
    fields = All-weaker (AreRightFields kept) (AreRightFields defs) fields_same (field_lists_of t.value) r.fields;
  }

-- the name of a definition's type is known, and was met
pub type_named : (defs : List Definition) (t : TypeTree) → Contains defs (type_definition t) → has_name (all_type_names defs) t.name.text ≡ true
type_named defs t here =
    let own : Contains (type_names defs) t.name.text = in_map (λ (u : TypeTree). u.name.text) (type_trees defs) t (in_flat_map type_of defs (type_definition t) t here (in_head t [])) in
    let place = get_from_member (type_names defs) t.name.text own in
    has_right builtin_names (type_names defs) t.name.text (has_at (type_names defs) place.0 t.name.text place.1)

pub known_met : (defs : List Definition) (env : TypeEnv) → KnowsTypes defs env → (x : List ℕ) → has_name (all_type_names defs) x ≡ true → has_name (names_of env) x ≡ true
known_met defs env k x there = grind (arith, common_steps, placed_has 0 (all_type_names k.kept) x)

-- more names are met
pub knows_met : (defs : List Definition) (xs : List (List ℕ)) (old new : TypeEnv) → MeetsNames xs old new → KnowsTypes defs old → KnowsTypes defs new
knows_met defs xs old new m k = record { kept = k.kept; sees = sees_met (all_type_names k.kept) xs old new m k.sees; same = k.same }

-- definitions of something else are read
pub knows_other : (before : List Definition) (d : Definition) (env : TypeEnv) → type_names (d ∷ []) ≡ [] → KnowsTypes before env → KnowsTypes (before ++ d ∷ []) env
knows_other before d env none k = grind (arith, common_steps, names_split before (d ∷ []), append-nil (all_type_names before))

module _ (before : List Definition) (t : TypeTree) (old new : TypeEnv) (k : KnowsTypes before old) where
  -- the name of one more type
  pub knows_more : IsInterned new → NamesType t.name.text old new → KnowsTypes (before ++ type_definition t ∷ []) new
  knows_more i n =
      let x = t.name.text in
      let names = names_split k.kept (type_definition t ∷ []) in
      record {
        kept = k.kept ++ type_definition t ∷ [];
        sees = subst (Sees new) (sym names) (sees_type old (all_type_names k.kept) k.sees new x n i);
        same = λ y.
            ap (λ ns. has_name ns y) names ∙ has_append (all_type_names k.kept) (x ∷ []) y ∙ ap (λ b. b || has_name (x ∷ []) y) (k.same y)
            ∙ sym (ap (λ ns. has_name ns y) (names_split before (type_definition t ∷ [])) ∙ has_append (all_type_names before) (x ∷ []) y);
      }

  module _ (id : ℕ) (taken : type_at old (number (names_of old) t.name.text) ≡ Some id) where
    pub taken_place : place_from 0 t.name.text (all_type_names k.kept) ≡ Some id
    taken_place = sym (type_of_text old (all_type_names k.kept) k.sees t.name.text) ∙ taken

    pub taken_has : has_name (all_type_names before) t.name.text ≡ true
    taken_has = sym (k.same t.name.text) ∙ sym (placed_has 0 (all_type_names k.kept) t.name.text) ∙ ap is_some taken_place

    -- a name that is taken
    pub knows_taken : MeetsNames (t.name.text ∷ []) old new → KnowsTypes (before ++ type_definition t ∷ []) new
    knows_taken m = record {
      kept = k.kept;
      sees = sees_met (all_type_names k.kept) (t.name.text ∷ []) old new m k.sees;
      same = λ y.
          k.same y
          ∙ sym (ap (λ ns. has_name ns y) (names_split before (type_definition t ∷ [])) ∙ has_append (all_type_names before) (t.name.text ∷ []) y ∙ once_more (all_type_names before) t.name.text y taken_has);
    }

-- the definitions before the next place
pub one_more_read : (defs : List Def) (i : ℕ) (d : Def) → i < length defs → d ≡ get_or defs i d → definition_views (take i defs) ++ definition_view d ∷ [] ≡ definition_views (take (i + 1) defs)
one_more_read defs i d within at = grind (arith, common_steps, take_more defs i d within, map_push definition_view (take i defs) d)
