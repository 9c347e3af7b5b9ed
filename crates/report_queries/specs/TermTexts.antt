-- The text of a term: its name, its sites and its tree, with the rule that each return takes.
use Rattle.std.specs.Prelude.{◌≡◌, ℕ, List, [], ◌∷◌, ◌++◌, Option, Some, None, slice_get, Bool, if◌then◌else◌, codes}
use Rattle.std.specs.BTreeMap.{BTreeMap, get}
use Rattle.core_rule_sets.specs.declared.trie_again.Rule.{Rule}
use Rattle.core_rule_sets.specs.SiteViews.{site_views}
use Rattle.core_serialize.specs.TreeViews.{tree_view}
use Rattle.core_syntax.specs.declared.syntax.Files.{Files}
use Rattle.core_syntax.specs.declared.syntax.Pos.{Pos}
use Rattle.core_syntax.specs.contracts.syntax.PosOrd.TheImpl.{ghosts}
use Rattle.core_syntax.specs.SyntaxViews.{position}
use Rattle.core_types.specs.declared.ids.Sym.{Sym}
use Rattle.core_types.specs.Envs.{names_of}
use Rattle.cranelift_isle.specs.declared.lower.Lowered.{Lowered}
use Rattle.cranelift_isle.specs.declared.lower.LoweredTerm.{LoweredTerm}
use Rattle.model.specs.lists.Syntax.{Position}
use Rattle.model.specs.sites.Overlap.{position_eq}
use Rattle.model_print.specs.LineTexts.{lines_text}
use Rattle.model_print.specs.PrintedTrees.{printed_lines}
use Rattle.report_print.specs.declared.print.Comments.{Comments}
use Rattle.report_print.specs.TreeTexts.{comment_text, known_term, names_by, rule_text}

-- the name of a rule, if it is here and has one; else the other name
abbrev pub named_or : Option Sym → (is_here : Bool) → Option Sym → Option Sym
named_or None is_here other = other
named_or (Some name) is_here other = if is_here then Some name else other

abbrev pub name_or : Rule → Position → Option Sym → Option Sym
name_or r at other = named_or r.name (position_eq (position r.pos) at) other

-- the name of the last of some rules at a position that has one
abbrev pub name_behind : Option Sym → List Rule → Position → Option Sym
name_behind name [] at = name
name_behind name (r ∷ rs) at = name_behind (name_or r at name) rs at

abbrev pub rule_at : List Rule → Position → Option Sym
rule_at rules at = name_behind None rules at

-- what a map has of each position
abbrev pub HasNames : BTreeMap Pos Sym → (Position → Option Sym) → Type 0
HasNames names f = (q : Pos) → get ghosts.cmp names q ≡ f (position q)

-- the text of a term, where this is said of the rule at a position
abbrev pub text_saying : (Position → List ℕ) → Lowered → LoweredTerm → List ℕ
text_saying said lowered term =
    codes "term " ++ (known_term (names_of lowered.tyenv) (slice_get lowered.termenv.terms.items term.id.0) ++ (10 ∷
    lines_text (names_by (names_of lowered.tyenv) lowered.tyenv.types.items lowered.termenv.terms.items) said
    (printed_lines (site_views term.rules.bindings.items) (tree_view term.block))))

abbrev pub term_text_with : Comments → Lowered → LoweredTerm → List ℕ
term_text_with comments lowered term = text_saying (comment_text (names_of lowered.tyenv) comments) lowered term

-- the rule that a return takes is said: its name, if it has one, and its place
abbrev pub term_text : Files → Lowered → LoweredTerm → List ℕ
term_text files lowered term = text_saying (λ at. rule_text (names_of lowered.tyenv) (rule_at term.rules.rules.items at) files at) lowered term

-- the text of several
abbrev pub terms_text : Files → Lowered → List LoweredTerm → List ℕ
terms_text files lowered [] = []
terms_text files lowered (t ∷ ts) = term_text files lowered t ++ terms_text files lowered ts
