-- The requested page.
use Rattle.std.specs.Prelude.{Option}
use Rattle.admin_airspace.specs.declared.key.Cursor.{Cursor}
use Rattle.admin_airspace.specs.declared.query.PageQuery.{PageQuery}

-- The cursor after which the page begins, or `None` for the first page.
abbrev pub after_of : PageQuery → Option Cursor
after_of query = query.after
