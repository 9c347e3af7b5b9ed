-- More names leave a list its typed rules, or none.
use Rattle.std.proofs.Common.{◌≡◌, ℕ, suc, ◌+◌, ◌==◌, ◌<◌, not, ◌&&◌, Bool, true, cond, List, [], ◌∷◌, ◌++◌, length, map, Option, Some, option_map, slice_get, is_some, flat_map, refl, sym, ap, ◌∙◌, subst, inl, inr, arith}
use Rattle.std.proofs.lemmas.Grind.{common_steps}
use Rattle.std.proofs.Math.Path.{ap₂}
use Rattle.std.specs.List.{enumerate_from, count_by, fold, find}
use Rattle.std.specs.Str.{bytes_eq}
use Rattle.std.proofs.lemmas.List.Elements.{All-contains}
use Rattle.std.proofs.lemmas.Option.{none-some, same_Some}
use Rattle.model.specs.lists.Syntax.{Definition, DeclTree, ExtractorTree, RuleTree}
use Rattle.model.specs.lists.Names.{number, has_name, IsDistinct}
use Rattle.model.specs.lists.Tables.{VariantEntry, TypeEntry, TermEntry, ConstructorEntry, external_constructor, ExtractorEntry, internal_extractor, external_extractor, declared_term}
use Rattle.model.specs.lists.KnownTypes.{KnownTypes}
use Rattle.model.specs.lists.TermTable.{ConstructorTree, ExternalTree, decl_names, decl_trees, function_of, rule_trees, constructor_trees, extractor_trees, external_trees, extractor_template, decl_flags, constructor_kind, extractor_kind, decl_as_term, made_by, terms_made, term_names_met, term_table, converters}
use Rattle.model.specs.lists.Setting.{new_scope, entry_template}
use Rattle.model.specs.lists.Elaborated.{TypedRules, elaborated_rule, term_name, named_rule, named_rules, rule_names, named, typed_rules, RulesElaborate}
use Rattle.model.specs.rules.Typed.{TypedRule}
use Rattle.model.specs.claims.Environments.{setting_of, HasTypedRules}
use Rattle.model.proofs.Elements.{In, contains_from_in, in_flat_map, from_flat_map, in_map, map_in}
use Rattle.model.proofs.Mapped.{mapped_some, get_mapped}
use Rattle.model.proofs.Members.{get_within, member_from_get}
use Rattle.model.proofs.Names.{found, has_met, has_left, get_kept, distinct_names, number_below}
use Rattle.model.proofs.Positions.{get_front}
use Rattle.laws_typing.specs.FurtherNames.{AreThereAlike}
use Rattle.laws_typing.proofs.TypesStay.{number_front}
use Rattle.laws_typing.proofs.TypedRules.{lists_agree}
use Rattle.laws_typing.specs.AfterRefusals.{RulesAreTypedAgain}
use Rattle.laws_typing.proofs.DistinctLists.{has_name_decides}
use Rattle.laws_typing.proofs.TwoTables.{OfOneText, same_kind, declared_alike, EntryAlike, EntriesAlike, NumbersAlike, RuleAlike, RulesAlike, numbers_kept, TwoTables, other_setting, turned, Alike, names_alike, rules_found, typings_alike}
use Rattle.laws_typing.proofs.AfterRefusals.{TypesReadAgain, later, still_readable, made_below, names_stay, valid_alike, left_again}

-- 1. two choices, by one test
either_two : {X : Type 0} (P : X → X → Type 0) (a b : Bool) (x y z w : X) → a ≡ b → P x z → P y w → P (cond a x y) (cond b z w)
either_two P a b x y z w e p q = grind (arith, common_steps)

-- 2. rules that are alike have names alike once the only rules of their terms are named by these
term_names_alike : (ns ms : List (List ℕ)) (ts us : List TermEntry) → EntriesAlike ns ms ts us → (i : ℕ) → NumbersAlike ns ms (term_name ts i) (term_name us i)
term_names_alike ns ms (t ∷ ts) (u ∷ us) h (suc i) = term_names_alike ns ms ts us h.1 i
term_names_alike ns ms ts us h i = grind (arith, common_steps)

module _ (two : TwoTables) (after last : List (List ℕ)) (names : Alike two (new_scope after) (new_scope last)) where
  counts_alike : (qs rs : List TypedRule) → RulesAlike after last qs rs → (t a : ℕ)
      → fold (λ n (q : TypedRule). n + cond (q.root_term == t) 1 0) a qs ≡ fold (λ n (q : TypedRule). n + cond (q.root_term == t) 1 0) a rs
  counts_alike (q ∷ qs) (r ∷ rs) h t a = grind (arith, common_steps, counts_alike qs rs h.1 t (a + cond (r.root_term == t) 1 0))
  counts_alike qs rs h t a = grind (arith, common_steps)

  some_alike : (o p : Option ℕ) → NumbersAlike after last o p → is_some p ≡ is_some o
  some_alike o p h = grind (arith, common_steps)

  rule_named_alike : (qs rs : List TypedRule) → RulesAlike after last qs rs → (q r : TypedRule) → RuleAlike after last q r → RuleAlike after last (named_rule two.setting.terms qs q) (named_rule two.other_terms rs r)
  rule_named_alike qs rs all q r h = record {
    term = h.term;
    name = either_two (NumbersAlike after last) (not (is_some q.name) && (count_by (λ x. x.root_term == q.root_term) qs == 1)) (not (is_some r.name) && (count_by (λ x. x.root_term == r.root_term) rs == 1))
        (term_name two.setting.terms q.root_term) q.name (term_name two.other_terms r.root_term) r.name
        (ap₂ (λ a n. not a && (n == 1)) (sym (some_alike q.name r.name h.name)) (counts_alike qs rs all q.root_term 0 ∙ ap (λ t. count_by (λ (x : TypedRule). x.root_term == t) rs) (sym h.term)))
        (numbers_kept two.names two.other_names after last names.kept names.kept' (term_name two.setting.terms q.root_term) (term_name two.other_terms r.root_term)
        (grind (arith, common_steps, term_names_alike)))
        h.name;
  }

  all_named_alike : (qs rs : List TypedRule) → RulesAlike after last qs rs → (xs ys : List TypedRule) → RulesAlike after last xs ys → RulesAlike after last (map (named_rule two.setting.terms qs) xs) (map (named_rule two.other_terms rs) ys)
  all_named_alike qs rs all (x ∷ xs) (y ∷ ys) h = (rule_named_alike qs rs all x y h.0, all_named_alike qs rs all xs ys h.1)
  all_named_alike qs rs all ys h i = grind (arith, common_steps)

  -- numbers of one text each
  abbrev OfTexts : List ℕ → List ℕ → Type 0
  OfTexts [] [] = Unit {0}
  OfTexts (k ∷ ks) (l ∷ ls) = OfOneText after last k l × OfTexts ks ls
  OfTexts _ _ = ⊥

  names_of_texts : (qs rs : List TypedRule) → RulesAlike after last qs rs → OfTexts (rule_names qs) (rule_names rs)
  names_of_texts (q ∷ qs) (r ∷ rs) h = grind (arith, common_steps, names_of_texts qs rs h.1)
  names_of_texts qs rs h = grind (arith, common_steps)

  text_at : (ks ls : List ℕ) → OfTexts ks ls → (i y : ℕ) → slice_get ls i ≡ Some y → (k : ℕ) × (slice_get ks i ≡ Some k) × OfOneText after last k y
  text_at (k ∷ ks) (l ∷ ls) h (suc i) y e = text_at ks ls h.1 i y e
  text_at ks ls h i y e = grind (arith, common_steps, none-some, same_Some)

  distinct_alike : (qs rs : List TypedRule) → RulesAlike after last qs rs → IsDistinct (rule_names qs) → IsDistinct (rule_names rs)
  distinct_alike qs rs h g i j y a b = grind (arith, common_steps, names_of_texts qs rs h, text_at (rule_names qs) (rule_names rs), names_of_texts, text_at, same_Some)

-- 3. the rules of a list
elaborate_alike : (two : TwoTables) → Alike two (new_scope two.names) (new_scope two.other_names) → (trees : List RuleTree) (l : TypedRules)
    → RulesElaborate two.setting trees two.names l → (m : TypedRules) × RulesElaborate (other_setting two) trees two.other_names m
elaborate_alike two start trees l h =
    let e = two.setting in
    let f = other_setting two in
    let raw = mapped_some (named e) (typed_rules e 0 trees two.names) l h.typed in
    let k : TypedRules = raw.0 in
    let r = rules_found two ((lists_agree e 0 trees two.names k.rules k.names).1 raw.1) two.other_names start in
    let alike = all_named_alike two k.names r.last r.scopes k.rules r.rules r.alike k.rules r.rules r.alike in (
      named f (record { rules = r.rules; names = r.last }),
      record {
        typed = ap (option_map (named f)) ((lists_agree f 0 trees two.other_names r.rules r.last).0 r.made);
        distinct = distinct_alike two k.names r.last r.scopes (named_rules e.terms k.rules) (named_rules f.terms r.rules) alike
            (subst (λ (x : TypedRules). IsDistinct (rule_names x.rules)) (sym raw.2) h.distinct);
      },
    )

-- 4. types with more names
map_same : {X Y : Type 0} (f g : X → Y) (xs : List X) → ((x : X) → In xs x → f x ≡ g x) → map f xs ≡ map g xs
map_same f g [] h = refl
map_same f g (x ∷ xs) h = ap₂ (λ y ys. y ∷ ys) (h x (inl refl)) (map_same f g xs (λ z i. h z (inr i)))

-- a declared term is there
has_declared : (ds : List DeclTree) (d : DeclTree) → In ds d → has_name (map (λ (x : DeclTree). x.term.text) ds) d.term.text ≡ true
has_declared ds d i = grind (arith, common_steps, has_name_decides, contains_from_in, map_in)

module _ (a : TypesReadAgain) (defs : List Definition) where
  abbrev k : KnownTypes
  k = a.types.known

  abbrev ns : List (List ℕ)
  ns = term_names_met k defs

  abbrev ms : List (List ℕ)
  ms = term_names_met (later a).known defs

  abbrev met_names : List (List ℕ)
  met_names = decl_names defs ++ flat_map function_of defs

  -- names that were met before have the same numbers
  stays : (n : ℕ) → n < length k.names → OfOneText ns ms n n
  stays n l =
      let x = get_within k.names n l in
      (x.0, get_kept k.names met_names n x.0 x.1, get_kept (k.names ++ a.more) met_names n x.0 (get_front k.names a.more n x.0 x.1))

  made_stay : (n : ℕ) → In (flat_map made_by k.types) n → OfOneText ns ms n n
  made_stay n i = stays n (made_below a n i)

  declared_there : (x : List ℕ) → has_name (decl_names defs) x ≡ true → (has_name ns x ≡ true) × (has_name ms x ≡ true)
  declared_there x h = grind (arith, common_steps, has_left (decl_names defs) (flat_map function_of defs) x h, has_left, has_met)

  -- 5. the entries of terms
  abbrev own_function : List (List ℕ) → List ℕ → Option ConstructorEntry
  own_function names x = option_map (λ (c : ConstructorTree). external_constructor (number names c.function.text)) (find (λ (c : ConstructorTree). bytes_eq c.term.text x) (constructor_trees defs))

  abbrev own_external : List (List ℕ) → List ℕ → Option ExtractorEntry
  own_external names x = option_map (λ (e : ExternalTree). external_extractor (number names e.function.text) e.infallible e.at) (find (λ (e : ExternalTree). bytes_eq e.term.text x) (external_trees defs))

  abbrev own_internal : List ℕ → Option ExtractorEntry
  own_internal x = option_map (λ (e : ExtractorTree). internal_extractor (extractor_template e)) (find (λ (e : ExtractorTree). bytes_eq e.term.text x) (extractor_trees defs))

  constructor_there : (x : List ℕ) → is_some (constructor_kind defs ms x) ≡ is_some (constructor_kind defs ns x)
  constructor_there x = grind (arith, common_steps, either_two)

  extractor_there : (x : List ℕ) → is_some (extractor_kind defs ms x) ≡ is_some (extractor_kind defs ns x)
  extractor_there x = grind (arith, common_steps, either_two)

  template_there : (x : List ℕ) → entry_template (extractor_kind defs ms x) ≡ entry_template (extractor_kind defs ns x)
  template_there x = grind (arith, common_steps, either_two)

  decl_alike : (d : DeclTree) (id : ℕ) → has_name (decl_names defs) d.term.text ≡ true → EntryAlike ns ms (decl_as_term k defs ns d id) (decl_as_term k defs ms d id)
  decl_alike d id h =
      let x = d.term.text in
      let there = declared_there x h in
      record {
        name = number ms x;
        kind = declared_term (decl_flags d) (constructor_kind defs ms x) (extractor_kind defs ms x);
        same = refl;
        named = (x, found ns x there.0, found ms x there.1);
        kinds = declared_alike (decl_flags d) (constructor_kind defs ns x) (constructor_kind defs ms x) (extractor_kind defs ns x) (extractor_kind defs ms x) (constructor_there x) (extractor_there x) (template_there x);
      }

  -- the names of the terms that types make
  name_made : (t : TypeEntry) (g : ℕ → TermEntry) → In (terms_made t) g → (id : ℕ) → In (made_by t) (g id).name
  name_made t g i id = grind (arith, common_steps, in_map, map_in (λ (w : VariantEntry). w.full_name))

  abbrev at_ids : ℕ → List (ℕ → TermEntry) → List TermEntry
  at_ids i gs = map (λ (p : ℕ × (ℕ → TermEntry)). p.1 p.0) (enumerate_from i gs)

  made_alike : (i : ℕ) (gs : List (ℕ → TermEntry)) → ((g : ℕ → TermEntry) → In gs g → (id : ℕ) → OfOneText ns ms (g id).name (g id).name) → EntriesAlike ns ms (at_ids i gs) (at_ids i gs)
  made_alike i [] h = tt
  made_alike i (g ∷ gs) h = (
    record { name = (g i).name; kind = (g i).kind; same = refl; named = h g (inl refl) i; kinds = same_kind (g i).kind },
    made_alike (i + 1) gs (λ x j. h x (inr j)),
  )

  terms_alike : (i : ℕ) (ds : List DeclTree) → ((d : DeclTree) → In ds d → has_name (decl_names defs) d.term.text ≡ true)
      → EntriesAlike ns ms (at_ids i (map (decl_as_term k defs ns) ds ++ flat_map terms_made k.types)) (at_ids i (map (decl_as_term k defs ms) ds ++ flat_map terms_made k.types))
  terms_alike i [] h = grind (arith, made_alike, from_flat_map, made_stay, in_flat_map, name_made)
  terms_alike i (d ∷ ds) h = (decl_alike d i (h d (inl refl)), terms_alike (i + 1) ds (λ x j. h x (inr j)))

  -- 6. the tables
  type_stays : (i n : ℕ) → slice_get (map (number k.names) k.type_names) i ≡ Some n → OfOneText ns ms n n
  type_stays i n h = grind (arith, common_steps, get_mapped, stays, number_below, member_from_get)

  constant_stays : (i : ℕ) (c : ℕ × ℕ) → slice_get a.types.constants i ≡ Some c → OfOneText ns ms c.0 c.0
  constant_stays i c h = stays c.0 (All-contains (λ (d : ℕ × ℕ). d.0 < length k.names) a.types.constants c a.readable.names_of_constants (member_from_get a.types.constants i c h))

  module _ (expand : Bool) where
    abbrev two : TwoTables
    two = record {
      setting = setting_of a.types defs expand;
      names = ns;
      other_terms = term_table (later a).known defs;
      other_names = ms;
      terms = terms_alike 0 (decl_trees defs) (λ d i. has_declared (decl_trees defs) d i);
      type_names = type_stays;
      constants = constant_stays;
    }

    start : Alike two (new_scope ns) (new_scope ms)
    start = grind (arith, names_alike, distinct_names)

    start_back : Alike (turned two) (new_scope ms) (new_scope ns)
    start_back = grind (arith, names_alike, turned, distinct_names)

    converters_stay : converters (later a).known defs ≡ converters k defs
    converters_stay = grind (arith, common_steps, names_stay a defs, names_stay)

    same_setting : setting_of (later a) defs expand ≡ other_setting two
    same_setting = grind (arith, converters_stay, map_same, number_front, All-contains, contains_from_in)

    -- a rule has a typed rule by the types with more names exactly where it has one by these
    pub rules_there : (d id : ℕ) (q : RuleTree) → AreThereAlike (elaborated_rule (setting_of a.types defs expand) d id q ns) (elaborated_rule (setting_of (later a) defs expand) d id q ms)
    rules_there d id q =
        subst (λ s. AreThereAlike (elaborated_rule (setting_of a.types defs expand) d id q ns) (elaborated_rule s d id q ms)) (sym same_setting) (typings_alike two ns ms start d id q)

    pub rules_again : HasTypedRules a.types defs expand → HasTypedRules (later a) defs expand
    rules_again (l, h) =
        let m = elaborate_alike two start (rule_trees defs) l h.elaborate in (
          m.0,
          record {
            readable = still_readable a;
            terms = (valid_alike a defs).0 h.terms;
            defined = h.defined;
            elaborate = subst (λ s. RulesElaborate s (rule_trees defs) ms m.0) (sym same_setting) m.1;
          },
        )

    pub rules_before : HasTypedRules (later a) defs expand → HasTypedRules a.types defs expand
    rules_before (l, h) =
        let m = elaborate_alike (turned two) start_back (rule_trees defs) l (subst (λ s. RulesElaborate s (rule_trees defs) ms l) same_setting h.elaborate) in (
          m.0,
          record { readable = a.readable; terms = (valid_alike a defs).1 h.terms; defined = h.defined; elaborate = m.1 },
        )

pub rules_are_typed_again_lem : RulesAreTypedAgain
rules_are_typed_again_lem e env r left defs expand = (let a = left_again e env r left in (rules_again a defs expand, rules_before a defs expand))
