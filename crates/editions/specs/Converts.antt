-- 02, A7, whole: `converts`.
use Rattle.rules.specs.Converted.{Converts}
use Rattle.editions.specs.Conversions.{up_read, down_read, up_down, down_up}
use Rattle.editions.specs.SameRuns.{same_run}
use Rattle.editions.specs.SameChecks.{same_check}

pub converts : Converts
converts = record { up_read = up_read; down_read = down_read; up_down = up_down; down_up = down_up; same_run = same_run; same_check = same_check }
