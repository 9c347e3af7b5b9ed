-- The text of trees, where names are looked up in tables. A number that has no name is written as a question mark.
use Rattle.std.specs.Prelude.{ℕ, List, [], ◌++◌, Option, Some, None, map, slice_get, string_bytes, codes}
use Rattle.std.specs.BTreeMap.{get}
use Rattle.core_syntax.specs.declared.syntax.Files.{Files}
use Rattle.core_syntax.specs.declared.syntax.Pos.{Pos}
use Rattle.core_syntax.specs.contracts.syntax.PosOrd.TheImpl.{ghosts}
use Rattle.core_types.specs.Builtin.{builtin_name}
use Rattle.core_types.specs.declared.ids.Sym.{Sym}
use Rattle.core_types.specs.declared.types.Type as T
use Rattle.core_types.specs.declared.types.Type.TheVariants.{Builtin, Primitive, Enum, Struct}
use Rattle.core_types.specs.declared.types.Variant.{Variant}
use Rattle.core_terms.specs.declared.term.Term.{Term}
use Rattle.core_rule_sets.specs.SiteViews.{site_views}
use Rattle.core_rule_sets.specs.declared.trie_again.Binding.{Binding}
use Rattle.core_serialize.specs.TreeViews.{tree_view}
use Rattle.core_serialize.specs.declared.serialize.Block.{Block}
use Rattle.model.specs.lists.Syntax.{Position}
use Rattle.model_print.specs.Lines.{Token, Line}
use Rattle.model_print.specs.LineTexts.{Names, further_text, lines_text}
use Rattle.model_print.specs.PrintedTrees.{printed_lines}
use Rattle.report_print.specs.PlaceTexts.{known_name, place_text}
use Rattle.report_print.specs.declared.print.TreeNames.{TreeNames}
use Rattle.report_print.specs.declared.print.Comments.{Comments}
use Rattle.report_print.specs.declared.print.Comments.TheVariants.{Nothing, Rules}

abbrev pub known_type : List (List ℕ) → Option T.Type → List ℕ
known_type names None = codes "?"
known_type names (Some (Builtin b)) = builtin_name b
known_type names (Some (Primitive id name pos)) = known_name names name.0
known_type names (Some (Enum name id is_extern is_nodebug variants pos)) = known_name names name.0
known_type names (Some (Struct name id is_extern is_nodebug fields pos)) = known_name names name.0

abbrev pub named_variant : List (List ℕ) → Option Variant → List ℕ
named_variant names None = codes "?"
named_variant names (Some v) = known_name names v.name.0

abbrev pub known_variant : List (List ℕ) → Option T.Type → ℕ → List ℕ
known_variant names (Some (Enum name id is_extern is_nodebug variants pos)) v = named_variant names (slice_get variants.items v)
known_variant names ty v = codes "?"

abbrev pub known_term : List (List ℕ) → Option Term → List ℕ
known_term names None = codes "?"
known_term names (Some t) = known_name names t.name.0

abbrev pub syms_of : TreeNames → List (List ℕ)
syms_of n = map string_bytes n.syms.now

-- how things are written by their numbers, with these texts of names, types and terms
abbrev pub names_by : List (List ℕ) → List T.Type → List Term → Names
names_by names types terms = record {
  term = λ t. known_term names (slice_get terms t);
  ty = λ ty. known_type names (slice_get types ty);
  variant = λ ty v. known_variant names (slice_get types ty) v;
  constant = λ c. known_name names c;
}

abbrev pub tree_names : TreeNames → Names
tree_names n = names_by (syms_of n) n.types.now n.terms.now

-- what is said of the rule at a position: its name, if it has one, and its place
abbrev pub named_rule : List (List ℕ) → Option Sym → List ℕ
named_rule names None = []
named_rule names (Some s) = known_name names s.0 ++ codes " at "

abbrev pub at_pos : Position → Pos
at_pos at = record { file = at.file; offset = at.offset }

abbrev pub rule_text : List (List ℕ) → Option Sym → Files → Position → List ℕ
rule_text names name files at = codes "  ; " ++ (named_rule names name ++ place_text files at)

abbrev pub comment_text : List (List ℕ) → Comments → Position → List ℕ
comment_text names Nothing at = []
comment_text names (Rules lines rules) at = rule_text names (get ghosts.cmp rules.now (at_pos at)) lines.now.files.now at

-- tokens behind others
abbrev pub behind : TreeNames → List Token → List ℕ
behind n ts = further_text (tree_names n) ts

abbrev pub shown_lines : TreeNames → Comments → List Line → List ℕ
shown_lines n comments ls = lines_text (tree_names n) (comment_text (syms_of n) comments) ls

-- the sites of a term and its tree
abbrev pub tree_text : TreeNames → Comments → List Binding → Block → List ℕ
tree_text n comments bindings block = shown_lines n comments (printed_lines (site_views bindings) (tree_view block))
