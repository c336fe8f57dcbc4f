-- The texts of a kernel's errors.
use Rattle.std.specs.Prelude.{ℕ, List, codes}
use Rattle.process_kernel.specs.declared.kernel.KernelError.{KernelError}
use Rattle.process_kernel.specs.declared.kernel.KernelError.TheVariants.{Memory, Failed}

abbrev pub text_of_kernel_error : KernelError → List ℕ
text_of_kernel_error Memory = codes "no memory for the kernel"
text_of_kernel_error Failed = codes "the kernel has failed before"
