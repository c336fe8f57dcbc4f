-- Comparisons of two counts.
use Rattle.std.specs.Prelude.{Bool, ◌*◌, nat_le, nat_lt, if◌then◌else◌}
use Rattle.mote_net.specs.Report.{ReportModel}
use Rattle.claims.specs.declared.ratio.Ratio.{Ratio}
use Rattle.claims.specs.Counts.{number_of}

-- one number times a factor is at most another number times a factor; or below it, if the ratio is strict
abbrev pub is_in_ratio : Ratio → ReportModel → Bool
is_in_ratio q r = (let low = number_of q.low r * q.low_times in let high = number_of q.high r * q.high_times in
    if q.is_strict then nat_lt low high else nat_le low high)
