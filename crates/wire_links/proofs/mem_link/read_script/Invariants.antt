use Rattle.std.proofs.Common.{◌≡◌, ◌≤◌, All, length, take, vec_capacity}
use Rattle.wire_links.specs.Scripts.{lists_in, fits}
use Rattle.wire_links.proofs.mem_link.read_script.Given as goal

abbrev pub invariant-loop-bytes : goal.invariant-loop-bytes
invariant-loop-bytes l =
    (l.frames.items ≡ lists_in (take l.bytes-index l.script)) × All fits l.frames.items × (length l.script ≤ vec_capacity l.frames)
