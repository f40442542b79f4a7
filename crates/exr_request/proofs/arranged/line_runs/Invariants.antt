use Rattle.std.proofs.Common.{◌≡◌, ◌++◌, ◌*◌, ◌≤◌, ◌^◌, map, take, drop}
use Rattle.std.specs.List.{sum_by}
use Rattle.exr_request.specs.Arranged.{plain_run, row_bytes, run_for, behind}
use Rattle.exr_request.proofs.arranged.line_runs.Given as goal

-- the runs so far, before those of the channels that are left
abbrev pub invariant-loop-channel : goal.invariant-loop-channel
invariant-loop-channel l = record {
  rest : map plain_run l.runs.items ++ behind (row_bytes l.window) (run_for l.fill) l.at (drop l.channel-index l.channels)
      ≡ behind (row_bytes l.window) (run_for l.fill) 0 l.channels;
  bytes : l.at ≡ sum_by (row_bytes l.window) (take l.channel-index l.channels);
  small : l.at ≤ l.channel-index * 2 ^ 22;
}
