-- A table of contents; a file's first line says what it is.

-- Which core bytes have, and why they have none: names, places, and terms that are counted.
pub mod Local
pub mod LocalFaults
pub mod Naming
pub mod Building
pub mod Counting
pub mod Judged
pub mod Sample
-- As the code keeps names and declarations.
pub mod Knowing
-- What the builder leaves, and the count of terms.
pub mod Builds
pub mod Bodied
pub mod CountingSteps
