-- What the four calls of a context do (Clang's manual, 'RealtimeSanitizer': the real-time context, and its disabling).
use Rattle.std.specs.Prelude.{◌+◌, ◌-◌, Bool, true, false}
use Rattle.rt_ctx.specs.declared.context.Context.{Context}

-- a frame is entered, whose function has the level NonBlocking or hasn't
abbrev pub entered : Bool → Context → Context
entered true c = record c { depth = c.depth + 1 }
entered false c = c

-- such a frame is left
abbrev pub left : Bool → Context → Context
left true c = record c { depth = c.depth - 1 }
left false c = c

abbrev pub disabling : Context → Context
disabling c = record c { disabled = c.disabled + 1 }

-- at 0 nothing changes, since `-` stops there
abbrev pub enabling : Context → Context
enabling c = record c { disabled = c.disabled - 1 }
