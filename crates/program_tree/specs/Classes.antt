-- The meaning of the classes of names in `src/class.rt`.
use Rattle.program_tree.specs.Tree.{Class, an_event, a_semaphore, a_process, a_variable, a_timer, a_thread}
use Rattle.program_tree.specs.declared.class.Class.{Class as ClassRead}
use Rattle.program_tree.specs.declared.class.Class.TheVariants as read

abbrev pub class_of : ClassRead → Class
class_of read.Event = an_event
class_of read.Semaphore = a_semaphore
class_of read.Process = a_process
class_of read.Variable = a_variable
class_of read.Timer = a_timer
class_of read.Thread = a_thread
