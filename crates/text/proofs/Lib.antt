mod Reading
mod Law
