use Rattle.std.proofs.Common.{◌≡◌, vec_len}
use Rattle.text_reader.specs.FormViews.{all_view, begun_views, form_view}
use Rattle.text_reader.specs.Forming.{put}
use Rattle.text_reader.specs.Forms.{FormIsWithin, FormsAreWithin, OpensAreWithin}
use Rattle.text_reader.proofs.forms.put.Given as goal

abbrev pub invariant-loop-begun : goal.invariant-loop-begun
invariant-loop-begun l = OpensAreWithin l.at.file l.at.len l.stack.items × FormIsWithin l.at.file l.at.len l.form × FormsAreWithin l.at.file l.at.len l.forms.items
    × (put (form_view l.form) (all_view l.forms.items) (begun_views l.stack.items) ≡ put (form_view l.fn.form) (all_view l.fn.forms.items) (begun_views l.fn.stack.items))

abbrev pub decreases-loop-begun : goal.decreases-loop-begun
decreases-loop-begun l = vec_len l.stack
