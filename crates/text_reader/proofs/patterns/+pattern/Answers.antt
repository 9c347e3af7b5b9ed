use Rattle.std.proofs.Common.{arith, rules, subst}
use Rattle.core_syntax.specs.SyntaxViews.{pattern_view, pattern_views}
use Rattle.text_reader.specs.FormViews.{all_view}
use Rattle.text_reader.specs.PatternGrammar.{arguments_of}
use Rattle.text_reader.specs.Within.{PatternIsWithin}
use Rattle.text_reader.proofs.Rows.{pushed}
use Rattle.text_reader.specs.Views.{Gives}
use Rattle.text_reader.proofs.ReadLists.{handed-on, group-view, pattern-is, pattern-headless, pattern-unread}
use Rattle.text_reader.proofs.ReadTrees.{arguments-begun, patterns-put, patterns-failed, patterns-done}
use Rattle.text_reader.proofs.patterns.+pattern.Goals as goal

pub arguments-loop-i-init : goal.arguments-loop-i-init
arguments-loop-i-init t c = (search rules, arguments-begun c.args.forms.now _ c.new-patterns.ensures.items)

pub arguments-loop-i-preserved : goal.arguments-loop-i-preserved
arguments-loop-i-preserved t c = (
  pushed (λ q. PatternIsWithin c.args.at.file c.args.at.len (pattern_view q)) c.loop-i.patterns.items c.push.new.self.items c.in_ok-pattern.field-0 c.in_ok-push.ensures.items c.loop-i.invariant.0 c.in_ok-pattern.ensures.within,
  patterns-put (arguments_of (all_view c.args.forms.now)) c.args.forms.now c.loop-i.i c.loop-i.patterns.items c.push.new.self.items c.index-forms-i.result c.in_ok-pattern.field-0
      c.loop-i-test.true c.index-forms-i.is c.in_ok-pattern.ensures.read c.in_ok-push.ensures.items c.loop-i.invariant.1,
)

pub arguments-returns-in_err-pattern-clause-read : goal.arguments-returns-in_err-pattern-clause-read
arguments-returns-in_err-pattern-clause-read t c =
    handed-on (λ ps. pattern_views ps.items) c.from_residual.result c.in_err-pattern.field-0.0 (arguments_of (all_view c.args.forms.now)) c.from_residual.ensures
    (patterns-failed (arguments_of (all_view c.args.forms.now)) c.args.forms.now c.loop-i.i c.loop-i.patterns.items c.index-forms-i.result c.in_err-pattern.field-0.0
    c.loop-i-test.true c.index-forms-i.is c.in_err-pattern.ensures.read c.loop-i.invariant.1)

pub arguments-returns-clause-read : goal.arguments-returns-clause-read
arguments-returns-clause-read t c =
    patterns-done (arguments_of (all_view c.args.forms.now)) c.args.forms.now c.loop-i.i c.loop-i.patterns.items (omega (arith, c.loop-i-test.false)) c.loop-i.invariant.1

pub pattern-returns-in_err-sym-in-Group-clause-read : goal.pattern-returns-in_err-sym-in-Group-clause-read
pattern-returns-in_err-sym-in-Group-clause-read t c =
    handed-on pattern_view c.from_residual-in_err-sym-in-Group.result c.in_err-sym-in-Group.field-0.0 _ c.from_residual-in_err-sym-in-Group.ensures
    (pattern-headless _ _ _ _ (group-view _ _ _ _ _ c.in-Group.is c.deref-forms.ensures.value) c.in_err-sym-in-Group.field-0.0 c.in_err-sym-in-Group.ensures.read)

pub pattern-returns-in_err-args-in-Group-clause-read : goal.pattern-returns-in_err-args-in-Group-clause-read
pattern-returns-in_err-args-in-Group-clause-read t c =
    handed-on pattern_view c.from_residual-in_err-args-in-Group.result c.in_err-args-in-Group.field-0.0 _ c.from_residual-in_err-args-in-Group.ensures
    (pattern-unread _ _ _ _ (group-view _ _ _ _ _ c.in-Group.is c.deref-forms.ensures.value) _ c.in_err-args-in-Group.field-0.0 c.in_ok-sym-in-Group.ensures.read c.in_err-args-in-Group.ensures.read)

pub pattern-returns-in_ok-args-in-Group-clause-read : goal.pattern-returns-in_ok-args-in-Group-clause-read
pattern-returns-in_ok-args-in-Group-clause-read t c =
    subst (Gives pattern_view c.list_pattern.result)
    (pattern-is _ _ _ _ (group-view _ _ _ _ _ c.in-Group.is c.deref-forms.ensures.value) _ _ c.in_ok-sym-in-Group.ensures.read c.in_ok-args-in-Group.ensures.read)
    c.list_pattern.ensures.read
