-- The text of the line that reports an error, without `motecheck: ` at its beginning.
use Rattle.std.specs.Prelude.{ℕ, List, [], ◌∷◌, ◌++◌, codes, decimal}
use Rattle.simulation.specs.FaultLines.{fault_line as simulation_line, memory_line}
use Rattle.simulation.specs.declared.input.InputError.TheVariants as input
use Rattle.claim_text.specs.declared.error.ClaimsError.TheVariants as claims
use Rattle.radio_faults.specs.declared.error.FaultsError.TheVariants as faults
use Rattle.trace_printer.specs.declared.error.PrintError.TheVariants as print
use Rattle.claim_check.specs.declared.error.CheckError.{CheckError}
use Rattle.claim_check.specs.declared.error.CheckError.TheVariants as check

-- an error of the scenario or of its run has the same text as in `motesim`
abbrev pub fault_line : CheckError → List ℕ
fault_line (check.Simulation e) = simulation_line e
fault_line (check.Input input.Read) = codes "read fault of the claims"
fault_line (check.Input input.TooLong) = codes "claims too long"
fault_line (check.Input input.NotText) = codes "claims are not UTF-8"
fault_line (check.Input input.Memory) = memory_line
fault_line (check.Claims claims.Memory) = memory_line
fault_line (check.Claims (claims.NotAClaim line column)) =
    codes "claims fault line " ++ decimal line ++ codes " column " ++ decimal column
fault_line (check.FaultsInput input.Read) = codes "read fault of the faults"
fault_line (check.FaultsInput input.TooLong) = codes "faults too long"
fault_line (check.FaultsInput input.NotText) = codes "faults are not UTF-8"
fault_line (check.FaultsInput input.Memory) = memory_line
fault_line (check.Faults faults.Memory) = memory_line
fault_line (check.Faults (faults.NotAFault line column)) =
    codes "faults fault line " ++ decimal line ++ codes " column " ++ decimal column
fault_line (check.NotInNet number) =
    codes "fault " ++ decimal number ++ codes " names a mote or a link that the net doesn't have"
fault_line check.TooManyClaims = codes "too many claims for a survey"
fault_line check.TooManyFaults = codes "too many faults for a survey"
fault_line (check.Print print.Write) = codes "write fault"
fault_line (check.Print print.Memory) = memory_line

-- the whole line that the program writes
abbrev pub written_line : CheckError → List ℕ
written_line e = codes "motecheck: " ++ fault_line e ++ 10 ∷ []
