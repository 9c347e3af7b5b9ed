-- What bindings, constraints, rules and rule sets say, without where their parts lie in memory. A site is
-- its number.
use Rattle.std.specs.Prelude.{ℕ, zero, suc, pos, Bool, List, [], ◌∷◌, ◌++◌, map, None, option_map, if◌then◌else◌}
use Rattle.std.specs.Bool.{◌==◌}
use Rattle.core_syntax.specs.Stable.{Members, contains}
use Rattle.core_syntax.specs.SyntaxViews.{position}
use Rattle.model.specs.sites.Sites as Sites
use Rattle.model.specs.sites.Sites.{Site, bool_site, int_site, prim_site, argument_site, extractor_site, constructor_site, iterator_site, make_variant_site, match_variant_site, make_struct_site, extract_struct_site, make_some_site, match_some_site, match_tuple_site, is_variant, is_struct, is_bool, is_int, is_prim, is_present, SetRule, SiteSet}
use Rattle.core_rule_sets.specs.declared.trie_again.Binding.{Binding}
use Rattle.core_rule_sets.specs.declared.trie_again.Binding.TheVariants as B
use Rattle.core_rule_sets.specs.declared.trie_again.Constraint.{Constraint}
use Rattle.core_rule_sets.specs.declared.trie_again.Constraint.TheVariants as C
use Rattle.core_rule_sets.specs.declared.trie_again.Rule.{Rule}
use Rattle.core_rule_sets.specs.declared.trie_again.RuleSet.{RuleSet}

abbrev pub site_view : Binding → Site
site_view (B.ConstBool b ty) = bool_site b ty.0
site_view (B.ConstInt z ty) = int_site z ty.0
site_view (B.ConstPrim s) = prim_site s.0
site_view (B.Argument i) = argument_site i
site_view (B.Extractor t source) = extractor_site t.0 source
site_view (B.Constructor t sources instance) = constructor_site t.0 sources.items instance
site_view (B.Iterator source) = iterator_site source
site_view (B.MakeVariant ty v fields) = make_variant_site ty.0 v.0 fields.items
site_view (B.MatchVariant source v field) = match_variant_site source v.0 field
site_view (B.MakeStruct ty fields) = make_struct_site ty.0 fields.items
site_view (B.ExtractStruct source field) = extract_struct_site source field
site_view (B.MakeSome source) = make_some_site source
site_view (B.MatchSome source) = match_some_site source
site_view (B.MatchTuple source field) = match_tuple_site source field

abbrev pub site_views : List Binding → List Site
site_views bs = map site_view bs

abbrev pub constraint_view : Constraint → Sites.Constraint
constraint_view (C.Variant ty v fields) = is_variant ty.0 v.0 fields
constraint_view (C.Struct ty fields) = is_struct ty.0 fields
constraint_view (C.ConstBool b ty) = is_bool b ty.0
constraint_view (C.ConstInt z ty) = is_int z ty.0
constraint_view (C.ConstPrim s) = is_prim s.0
constraint_view C.Some = is_present

abbrev pub constraint_views : List (ℕ × Constraint) → List (ℕ × Sites.Constraint)
constraint_views cs = map (λ c. (c.0, constraint_view c.1)) cs

-- the numbers below n that pass a test, ascending
unfoldable pub passing_below : ℕ → (ℕ → Bool) → List ℕ
passing_below zero p = []
passing_below (suc n) p = passing_below n p ++ (if p n then n ∷ [] else [])

-- the sites of a set, ascending: each site's number fits in 16 bits
abbrev pub member_sites : Members ℕ → List ℕ
member_sites s = passing_below 65536 (contains ◌==◌ s)

abbrev pub set_rule_view : Rule → SetRule
set_rule_view r = record {
  id = r.id.0;
  at = position r.pos;
  prio = r.prio;
  name = option_map (λ s. s.0) r.name;
  constraints = constraint_views r.constraints.items;
  classes = r.equals;
  iterators = member_sites r.iterators;
  impure = r.impure.items;
  result = r.result;
}

abbrev pub set_rule_views : List Rule → List SetRule
set_rule_views rs = map set_rule_view rs

abbrev pub set_view : RuleSet → SiteSet
set_view s = record { rules = set_rule_views s.rules.items; sites = site_views s.bindings.items }

-- what `Rule::new` and `RuleSet::new` give
abbrev pub empty_rule : SetRule
empty_rule = record {
  id = 0;
  at = record { file = 0; offset = 0 };
  prio = pos 0;
  name = None;
  constraints = [];
  classes = [];
  iterators = [];
  impure = [];
  result = 0;
}

abbrev pub empty_set : SiteSet
empty_set = record { rules = []; sites = [] }
