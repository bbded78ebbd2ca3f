-- Whether anything keeps a copy.
use Rattle.std.specs.Prelude.{Bool, not, ◌&&◌, is_none}
use Rattle.private_store.specs.rules.Copies.{is_held}
use Rattle.row_copy.specs.CopyViews.{CopyView}

-- neither held nor granted nor working
abbrev pub is_idle_view : CopyView → Bool
is_idle_view kept = not (is_held kept.copy) && not kept.granted && is_none kept.working

-- whether a copy is removed as soon as it is looked at: it is doomed, and nothing keeps it
abbrev pub is_over : CopyView → Bool
is_over kept = kept.copy.doomed && is_idle_view kept
