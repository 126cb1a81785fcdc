-- Serves proofs alone: where a whole removal is, as the code has it.
use Rattle.kmod_query.specs.declared.whole_steps.Course.{Course as CodeCourse}
use Rattle.kmod_query.specs.Removals.{removals_of}
use Rattle.kmod_query.specs.Whole.{Course}

abbrev pub course_of : CodeCourse → Course
course_of course =
    record {
      way = course.way;
      tasks = removals_of course.stack.items;
      taken = course.taken.items;
      failures = course.failures.items;
      failed = course.failed;
    }
