-- What tokens, lines and what is read of them say, without where they lie in memory.
use Rattle.std.specs.Prelude.{List, [], map}
use Rattle.core_syntax.specs.SyntaxViews.{position}
use Rattle.core_rule_sets.specs.SiteViews.{constraint_view}
use Rattle.core_serialize.specs.TreeViews.{steps_view, arms_view}
use Rattle.model.specs.trees.Trees.{Check, step, Arms}
use Rattle.model_print.specs.Lines as L
use Rattle.model_print.specs.ReadTrees as R
use Rattle.check_trees.specs.declared.tokens.Word as W
use Rattle.check_trees.specs.declared.tokens.Word.TheVariants as WV
use Rattle.check_trees.specs.declared.tokens.Token as T
use Rattle.check_trees.specs.declared.tokens.Token.TheVariants as TV
use Rattle.check_trees.specs.declared.tokens.Ending as E
use Rattle.check_trees.specs.declared.tokens.Ending.TheVariants as EV
use Rattle.check_trees.specs.declared.tokens.Line as N
use Rattle.check_trees.specs.declared.reader.Said as S
use Rattle.check_trees.specs.declared.reader.Said.TheVariants as SV
use Rattle.check_trees.specs.declared.reader.Level as V

abbrev pub word_view : W.Word → L.Word
word_view WV.Bind = L.bind_word
word_view WV.Match = L.match_word
word_view WV.Equal = L.equal_word
word_view WV.Loop = L.loop_word
word_view WV.Return = L.return_word
word_view WV.Bool = L.bool_word
word_view WV.Int = L.int_word
word_view WV.Prim = L.prim_word
word_view WV.Arg = L.arg_word
word_view WV.Extract = L.extract_word
word_view WV.Call = L.call_word
word_view WV.Pick = L.pick_word
word_view WV.Make = L.make_word
word_view WV.Some = L.some_word
word_view WV.Unwrap = L.unwrap_word
word_view WV.Field = L.field_word
word_view WV.Part = L.part_word
word_view WV.Of = L.of_word
word_view WV.Variant = L.variant_word
word_view WV.Struct = L.struct_word
word_view WV.Nothing = L.none
word_view WV.Equals = L.equals

abbrev pub token_view : T.Token → L.Token
token_view (TV.Word w) = L.word (word_view w)
token_view (TV.Site s) = L.site s
token_view (TV.Truth b) = L.truth b
token_view (TV.Count n) = L.count n
token_view (TV.Integer z) = L.integer z
token_view (TV.Instance n) = L.instance n
token_view (TV.TermName t) = L.term_name t.0
token_view (TV.TypeName ty) = L.type_name ty.0
token_view (TV.VariantName ty v) = L.variant_name ty.0 v.0
token_view (TV.ConstantName s) = L.constant_name s.0

abbrev pub token_views : List T.Token → List L.Token
token_views ts = map token_view ts

abbrev pub ending_view : E.Ending → L.Ending
ending_view EV.Nothing = L.nothing
ending_view EV.Colon = L.colon
ending_view (EV.Comment at) = L.comment (position at)

abbrev pub line_view : N.Line → L.Line
line_view l = L.line l.depth (token_views l.tokens.items) (ending_view l.ending)

abbrev pub line_views : List N.Line → List L.Line
line_views ls = map line_view ls

-- what a line of a tree says
abbrev pub said_view : S.Said → R.Said
said_view SV.NoPart = R.no_part
said_view (SV.Binds ss) = R.binds ss.items
said_view (SV.Match source) = R.checks_match source
said_view (SV.Equal a b) = R.checks_equal a b
said_view (SV.Loop result) = R.checks_loop result
said_view (SV.Return at result) = R.returns (position at) result
said_view (SV.Arm constraint fields) = R.begins_arm (constraint_view constraint) fields.items

abbrev pub level_view : V.Level → R.Level
level_view l = record { steps = steps_view l.steps.items; arms = arms_view l.arms.items }

-- a test that binds nothing, before the steps of a level; what makes arms of those behind, at the arms of a level
abbrev pub before_steps : Check → R.Level → R.Level
before_steps check l = record { steps = step [] check l.steps; arms = l.arms }

abbrev pub before_arms : (Arms → Arms) → R.Level → R.Level
before_arms arm l = record { steps = l.steps; arms = arm l.arms }
