-- Formulas by their numbers, each made of earlier ones.
use Rattle.std.specs.Prelude.{◌≡◌, ℕ, ◌+◌, Bool, true, false, not, ◌&&◌, List, Option, Some, None, nat_lt, slice_get}
use Rattle.std.specs.List.{list_all}
use Rattle.spec_cases.specs.declared.formulas.Place.{Place}
use Rattle.spec_cases.specs.declared.formulas.Place.TheVariants as P
use Rattle.spec_cases.specs.declared.formulas.Word.{Word}
use Rattle.spec_cases.specs.declared.formulas.Word.TheVariants as W
use Rattle.spec_cases.specs.declared.formulas.Integer.{Integer}
use Rattle.spec_cases.specs.declared.formulas.Integer.TheVariants as I
use Rattle.spec_cases.specs.declared.formulas.Fact.{Fact}
use Rattle.spec_cases.specs.declared.formulas.Fact.TheVariants as F
use Rattle.spec_cases.specs.declared.formulas.Operand.{Operand}
use Rattle.spec_cases.specs.declared.formulas.Operand.TheVariants as O
use Rattle.spec_cases.specs.declared.formulas.WordNode.TheVariants as WN
use Rattle.spec_cases.specs.declared.formulas.IntegerNode.TheVariants as IN
use Rattle.spec_cases.specs.declared.formulas.FactNode.TheVariants as FN
use Rattle.spec_cases.specs.declared.formulas.Node.{Node}
use Rattle.spec_cases.specs.declared.formulas.Node.TheVariants as N
use Rattle.spec_cases.specs.declared.forms.Form.{Form}
use Rattle.spec_cases.specs.declared.forms.Form.TheVariants as Fo

abbrev pub known_of : Fact → Option Bool
known_of (F.Known b) = Some b
known_of (F.At p) = None
known_of (F.AsWide p w) = None
known_of (F.IsKind p i) = None
known_of (F.Made n) = None

-- a truth that is known not to be so
abbrev pub is_false : Fact → Bool
is_false (F.Known b) = not b
is_false (F.At p) = false
is_false (F.AsWide p w) = false
is_false (F.IsKind p i) = false
is_false (F.Made n) = false

-- what it is made of has a smaller number
abbrev pub place_within : ℕ → Place → Bool
place_within count (P.Argument i) = true
place_within count (P.Site s) = true
place_within count (P.Output s i) = true
place_within count (P.VariantField p ty i k) = nat_lt p.0 count
place_within count (P.StructField p ty k) = nat_lt p.0 count

abbrev pub word_within : ℕ → Word → Bool
word_within count (W.Written n) = true
word_within count (W.At p w) = nat_lt p.0 count
word_within count (W.Made n) = nat_lt n.0 count

-- the number of what is made, counted from 1
abbrev pub word_number : Word → ℕ
word_number (W.Written n) = 0
word_number (W.At p w) = 0
word_number (W.Made n) = n.0 + 1

abbrev pub integer_within : ℕ → Integer → Bool
integer_within count (I.Written z) = true
integer_within count (I.At p) = nat_lt p.0 count
integer_within count (I.Made n) = nat_lt n.0 count

abbrev pub fact_within : ℕ → Fact → Bool
fact_within count (F.Known b) = true
fact_within count (F.At p) = nat_lt p.0 count
fact_within count (F.AsWide p w) = nat_lt p.0 count
fact_within count (F.IsKind p i) = nat_lt p.0 count
fact_within count (F.Made n) = nat_lt n.0 count

abbrev pub operand_within : ℕ → Operand → Bool
operand_within count (O.Fact f) = fact_within count f
operand_within count (O.Integer z) = integer_within count z
operand_within count (O.Word w t) = word_within count t

abbrev pub operands_within : ℕ → List Operand → Bool
operands_within count of = list_all (operand_within count) of

abbrev pub form_within : ℕ → Form → Bool
form_within count (Fo.Fact f) = fact_within count f
form_within count (Fo.Integer z) = integer_within count z
form_within count (Fo.Word w t) = word_within count t
form_within count (Fo.Variant ty i fs) = nat_lt fs.0 count
form_within count (Fo.Struct ty fs) = nat_lt fs.0 count
form_within count (Fo.AnyOf ty p) = nat_lt p.0 count
form_within count (Fo.SomeAt p) = nat_lt p.0 count

abbrev pub forms_within : ℕ → List Form → Bool
forms_within count fs = list_all (form_within count) fs

abbrev pub node_within : ℕ → Node → Bool
node_within count (N.Place p) = place_within count p
node_within count (N.Fields fs) = forms_within count fs.items
node_within count (N.Word (WN.By o of)) = operands_within count of.items
node_within count (N.Word (WN.Answered f of)) = operands_within count of.items
node_within count (N.Word (WN.Either f a b)) = fact_within count f && word_within count a && word_within count b
node_within count (N.Integer (IN.By o of)) = operands_within count of.items
node_within count (N.Integer (IN.Answered f of)) = operands_within count of.items
node_within count (N.Integer (IN.Either f a b)) = fact_within count f && integer_within count a && integer_within count b
node_within count (N.Fact (FN.By o of)) = operands_within count of.items
node_within count (N.Fact (FN.Answered f of)) = operands_within count of.items
node_within count (N.Fact (FN.Both a b)) = fact_within count a && fact_within count b
node_within count (N.Fact (FN.One a b)) = fact_within count a && fact_within count b
node_within count (N.Fact (FN.No a)) = fact_within count a
node_within count (N.Fact (FN.Same a b)) = fact_within count a && fact_within count b

-- each is made of earlier ones
abbrev pub AreOrdered : List Node → Type 0
AreOrdered nodes = (n : ℕ) (x : Node) → slice_get nodes n ≡ Some x → node_within n x ≡ true
